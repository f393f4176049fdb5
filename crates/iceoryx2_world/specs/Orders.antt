-- The orders of hashes, participants and pairs of these, and their laws.
use Rattle.std.specs.Prelude.{ℕ, List}
use Rattle.std.proofs.Common.{ap}
use Rattle.std.specs.Ordering.{nat_cmp, ordering_then}
use Rattle.std.specs.declared.cmp.Ordering.{Ordering}
use Rattle.std.specs.Cmp.{IsTotalOrder}
use Rattle.std.specs.Cmp.Lexicographic.{slice_cmp}
use Rattle.std.proofs.lemmas.Cmp.{on_total, then_total, nat_cmp_total, nat_list_cmp_total}
use Rattle.std.proofs.lemmas.Map.Lookups.{CmpEqualImpliesEq, exact_pairs, exact_unsigned, exact_bytes}
use Rattle.iceoryx2_world.specs.contracts.world.ParticipantOrd.TheImpl as derived
use Rattle.iceoryx2_world.specs.contracts.world.ParticipantOrd.TheImpl.Laws as derived_laws
use Rattle.iceoryx2_world.specs.declared.world.Participant.{Participant}
use Rattle.iceoryx2_world.specs.declared.world.Participant.TheVariants.{Node, Peer}
use Rattle.iceoryx2_description.specs.declared.description.ServiceHash.{ServiceHash}

abbrev pub hash_cmp : ServiceHash → ServiceHash → Ordering
hash_cmp a b = slice_cmp nat_cmp a.0 b.0

-- nodes first, then by id
abbrev pub participant_cmp : Participant → Participant → Ordering
participant_cmp p q = derived.cmp-value.it p q

abbrev pub place_cmp : Participant × ServiceHash → Participant × ServiceHash → Ordering
place_cmp x y = ordering_then (participant_cmp x.0 y.0) (hash_cmp x.1 y.1)

abbrev pub tag_cmp : ℕ × ServiceHash → ℕ × ServiceHash → Ordering
tag_cmp x y = ordering_then (nat_cmp x.0 y.0) (hash_cmp x.1 y.1)

pub hash_total : IsTotalOrder hash_cmp
hash_total = on_total (λ h. h.0) nat_list_cmp_total

pub hash_exact : CmpEqualImpliesEq hash_cmp
hash_exact a b e = ap (λ (l : List ℕ). record { 0 = l }) (exact_bytes a.0 b.0 e)

pub participant_total : IsTotalOrder participant_cmp
participant_total = (derived_laws.lawful).total

pub participant_exact : CmpEqualImpliesEq participant_cmp
participant_exact (Node a) (Node b) e = ap Node (exact_unsigned a b e)
participant_exact (Node a) (Peer b) e = cc
participant_exact (Peer a) (Node b) e = cc
participant_exact (Peer a) (Peer b) e = ap Peer (exact_unsigned a b e)

pub place_total : IsTotalOrder place_cmp
place_total = then_total (on_total (λ x. x.0) participant_total) (on_total (λ x. x.1) hash_total)

pub place_exact : CmpEqualImpliesEq place_cmp
place_exact = exact_pairs participant_cmp hash_cmp participant_exact hash_exact

pub tag_total : IsTotalOrder tag_cmp
tag_total = then_total (on_total (λ x. x.0) nat_cmp_total) (on_total (λ x. x.1) hash_total)

pub tag_exact : CmpEqualImpliesEq tag_cmp
tag_exact = exact_pairs nat_cmp hash_cmp exact_unsigned hash_exact
