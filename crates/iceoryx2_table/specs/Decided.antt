-- Each comparison decides whether the two are equal.
use Rattle.std.proofs.Common.{◌≡◌, ℕ, Bool, true, refl, ap, rules}
use Rattle.std.specs.Bool.{beq}
use Rattle.std.specs.Prelude.{nat_eq, ◌==◌, ◌&&◌}
use Rattle.std.specs.Bool.{Decides}
use Rattle.std.specs.Cmp.{IsPartialEquivalence, booleans_Decides, decided, partial_equiv_from_equiv}
use Rattle.std.specs.Cmp.Lexicographic.{pointwise}
use Rattle.std.specs.FinMap as map
use Rattle.std.proofs.lemmas.Bool.Decides.{Decides-and, Decides-eqb, Decides-like}
use Rattle.std.proofs.lemmas.Slice.Eq.{bytes_eq-Decides, slice_eq-Decides}
use Rattle.iceoryx2_description.specs.declared.description.ServiceHash.{ServiceHash}
use Rattle.iceoryx2_description.specs.contracts.description.ServiceHashPartialEq.TheImpl as hashes
use Rattle.iceoryx2_world.specs.contracts.world.ParticipantPartialEq.TheImpl as participants
use Rattle.iceoryx2_world.specs.contracts.world.PhasePartialEq.TheImpl as phases
use Rattle.iceoryx2_world.specs.contracts.world.TicketPartialEq.TheImpl as tickets
use Rattle.iceoryx2_world.specs.declared.world.Participant.{Participant}
use Rattle.iceoryx2_world.specs.declared.world.Participant.TheVariants.{Node, Peer}
use Rattle.iceoryx2_world.specs.declared.world.Phase.{Phase}
use Rattle.iceoryx2_world.specs.declared.world.Ticket.{Ticket}
use Rattle.iceoryx2_world.specs.declared.world.Row.{Row}
use Rattle.iceoryx2_world.specs.World.{Segment}
use Rattle.iceoryx2_table.specs.Comparing.{same_row, same_member, same_segment, same_place}

module _ {K X : Type 0} (E : K → K → Bool) (F : X → X → Bool) where
  abbrev Firsts : Type 0
  Firsts = (x y : K) → Decides (E x y) (x ≡ y)

  abbrev Seconds : Type 0
  Seconds = (x y : X) → Decides (F x y) (x ≡ y)

  -- pairs, by their parts
  pub pair_decides : Firsts → Seconds → (x y : K × X) → Decides (E x.0 y.0 && F x.1 y.1) (x ≡ y)
  pair_decides firsts seconds x y =
      Decides-like (E x.0 y.0 && F x.1 y.1) (λ (p : (x.0 ≡ y.0) × (x.1 ≡ y.1)). λ i. (p.0 i, p.1 i))
      (λ e. (ap (λ (z : K × X). z.0) e, ap (λ (z : K × X). z.1) e))
      (Decides-and (E x.0 y.0) (F x.1 y.1) (firsts x.0 y.0) (seconds x.1 y.1))

pub unit_decides : (x y : Unit {0}) → Decides true (x ≡ y)
unit_decides x y = (λ e. refl, λ e. refl)

pub hash_decides : (g h : ServiceHash) → Decides (hashes.ghosts.eq g h) (g ≡ h)
hash_decides g h = search (rules, bytes_eq-Decides)

pub participant_decides : (p q : Participant) → Decides (participants.ghosts.eq p q) (p ≡ q)
participant_decides (Node a) (Node b) = search (rules, Decides-eqb)
participant_decides (Node a) (Peer b) = search rules
participant_decides (Peer a) (Node b) = search rules
participant_decides (Peer a) (Peer b) = search (rules, Decides-eqb)

pub phase_decides : (x y : Phase) → Decides (phases.ghosts.eq x y) (x ≡ y)
phase_decides x y = search rules

pub ticket_decides : (t u : Ticket) → Decides (tickets.ghosts.eq t u) (t ≡ u)
ticket_decides t u = search (rules, hash_decides)

pub tag_decides : (s t : ℕ × ServiceHash) → Decides (s.0 == t.0 && hashes.ghosts.eq s.1 t.1) (s ≡ t)
tag_decides = pair_decides nat_eq hashes.ghosts.eq Decides-eqb hash_decides

pub place_decides : (x y : (Participant × ServiceHash) × Phase) → Decides (same_place x y) (x ≡ y)
place_decides = pair_decides (λ p q. participants.ghosts.eq p.0 q.0 && hashes.ghosts.eq p.1 q.1) phases.ghosts.eq
    (pair_decides participants.ghosts.eq hashes.ghosts.eq participant_decides hash_decides) phase_decides

pub row_decides : (r s : Row) → Decides (same_row r s) (r ≡ s)
row_decides r s = search (rules, bytes_eq-Decides)

pub row_laws : IsPartialEquivalence same_row
row_laws = partial_equiv_from_equiv (decided same_row row_decides)

pub member_decides : (p q : Participant × Unit {0}) → Decides (same_member p q) (p ≡ q)
member_decides = pair_decides participants.ghosts.eq (λ x y. true) participant_decides unit_decides

module _ (s t : Segment) where
  abbrev members : Bool
  members = pointwise same_member (map.entries s.participants) (map.entries t.participants)

  abbrev SameNumbers : Type 0
  SameNumbers = (s.number ≡ t.number) × (s.capacity ≡ t.capacity)

  abbrev SameMembers : Type 0
  SameMembers = (s.marked ≡ t.marked) × (map.entries s.participants ≡ map.entries t.participants)

  numbers_decided : Decides (s.number == t.number && s.capacity == t.capacity) SameNumbers
  numbers_decided = Decides-and (s.number == t.number) (s.capacity == t.capacity)
      (Decides-eqb s.number t.number) (Decides-eqb s.capacity t.capacity)

  members_decided : Decides (beq s.marked t.marked && members) SameMembers
  members_decided = Decides-and (beq s.marked t.marked) members
      (booleans_Decides s.marked t.marked) (slice_eq-Decides member_decides _ _ members refl)

  segment_from : SameNumbers × SameMembers → s ≡ t
  segment_from p = λ i. record {
    number = p.0.0 i;
    capacity = p.0.1 i;
    participants = map.same_entries_map s.participants t.participants p.1.1 i;
    marked = p.1.0 i;
  }

  segment_parts : s ≡ t → SameNumbers × SameMembers
  segment_parts e = (
    (ap (λ (x : Segment). x.number) e, ap (λ (x : Segment). x.capacity) e),
    (ap (λ (x : Segment). x.marked) e, ap (λ (x : Segment). map.entries x.participants) e),
  )

  pub segment_decides : Decides (same_segment s t) (s ≡ t)
  segment_decides = Decides-like (same_segment s t) segment_from segment_parts
      (Decides-and (s.number == t.number && s.capacity == t.capacity) (beq s.marked t.marked && members)
      numbers_decided members_decided)

pub segment_laws : IsPartialEquivalence same_segment
segment_laws = partial_equiv_from_equiv (decided same_segment segment_decides)
