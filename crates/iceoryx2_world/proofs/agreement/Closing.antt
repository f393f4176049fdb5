-- Where a node comes to as it closes: what it has to remove, and may.
use Rattle.std.proofs.Common.{◌≡◌, ℕ, inl, inr, Option, Some, None, Ok, refl, sym, ap, subst, ◌∙◌, Bool, true}
use Rattle.std.specs.FinMap as map
use Rattle.iceoryx2_description.specs.declared.description.ServiceHash.{ServiceHash}
use Rattle.iceoryx2_world.specs.declared.world.Participant.{Participant}
use Rattle.iceoryx2_world.specs.declared.world.Participant.TheVariants.{Node}
use Rattle.iceoryx2_world.specs.declared.world.Phase.{Phase}
use Rattle.iceoryx2_world.specs.declared.world.Phase.TheVariants as at
use Rattle.iceoryx2_access.specs.declared.storage.Release.{Release as Released}
use Rattle.iceoryx2_access.specs.declared.storage.Release.TheVariants.{Last}
use Rattle.iceoryx2_world.specs.declared.world.Row.{Row}
use Rattle.iceoryx2_world.specs.World.{World, Segment, row_of, segment_of, phase_of, ticket_of}
use Rattle.iceoryx2_world.specs.Acts as act
use Rattle.iceoryx2_world.specs.Steps.{ServiceView, view_after}
use Rattle.iceoryx2_access.specs.Letter as letter
use Rattle.iceoryx2_world.specs.Access.{write, view_becomes_with, release_answer, is_ticket, IsOwnPart}
use Rattle.iceoryx2_world.specs.Agreement.{Agrees}
use Rattle.iceoryx2_world.specs.Interference.{IsFallibleUnder}
use Rattle.iceoryx2_world.proofs.agreement.Effects.{allowed_step}
use Rattle.iceoryx2_world.proofs.agreement.Worlds.{place_cases}
use Rattle.iceoryx2_world.proofs.agreement.Parts.{clearing, sure_answer_cases, passed, release_ok}
use Rattle.iceoryx2_world.proofs.agreement.Accesses.{granted}
use Rattle.iceoryx2_world.proofs.agreement.Stands.{own_phase}

-- what a release answers, by the phase that its node comes to
pub released_as : (w v : World) (t i : ℕ) (h : ServiceHash) (n : ℕ) (a : Released) → IsOwnPart w (letter.Release t i h n (Ok a)) v → a ≡ release_answer (phase_of v (Node i) h)
released_as w v t i h n a p = elim (sure_answer_cases _ (Ok a) p.change p.own) [
  | inl k ↦
      let rest = release_ok i h t w.tickets _ k.given (passed (is_ticket i h n (ticket_of w t)) _ _ k.given k.from).1 in
      let answer : a ≡ k.given.0 = cc (k.answer) in
      let is : v ≡ write w i h (view_becomes_with rest.0 (map.remove w.tickets t)) = p.is ∙ ap (write w i h) (k.change ∙ (λ j. (rest.2 j).1)) in
      let phase : phase_of v (Node i) h ≡ (rest.0).phase = ap (λ u. phase_of u (Node i) h) is ∙ elim (place_cases w (Node i) h rest.0 (Node i) h) [ inl q ↦ q.2 | inr q ↦ absurd (q.0 refl refl) ] in
      answer ∙ (λ j. (rest.2 j).0) ∙ ap release_answer (sym phase)
  | inr k ↦ absurd (cc (k.answer))
]

-- who leaves as the last has to remove what is left
pub last_is_leaving : (x : Phase) → release_answer x ≡ Last → (n : ℕ) × (x ≡ at.Leaving n)
last_is_leaving (at.Leaving n) e = (n, refl)
last_is_leaving at.Idle e = absurd (cc)
last_is_leaving (at.Read n) e = absurd (cc)
last_is_leaving (at.Locked n) e = absurd (cc)
last_is_leaving (at.Made n) e = absurd (cc)
last_is_leaving (at.Joined n k) e = absurd (cc)
last_is_leaving (at.Cleared n) e = absurd (cc)

-- and may do it, also after its tag or its segment is gone
pub released_last : (w v : World) (t i : ℕ) (h : ServiceHash) (n : ℕ) → IsOwnPart w (letter.Release t i h n (Ok Last)) v → (m : ℕ) × (phase_of v (Node i) h ≡ at.Leaving m)
released_last w v t i h n p = last_is_leaving (phase_of v (Node i) h) (sym (released_as w v t i h n Last p))

tag_phase : (w v : World) (i : ℕ) (h : ServiceHash) (a : _) → IsOwnPart w (letter.RemoveTag i h a) v → phase_of v (Node i) h ≡ phase_of w (Node i) h
tag_phase w v i h a p = ap (λ u. phase_of u (Node i) h) (p.is ∙ ap (write w i h) p.own.1)

pub tag_removed_phase : {own : ℕ → Bool} (w v : World) (i : ℕ) (h : ServiceHash) (a : _) → own i ≡ true → Agrees w → IsFallibleUnder own w (letter.RemoveTag i h a) v → phase_of v (Node i) h ≡ phase_of w (Node i) h
tag_removed_phase w v i h a mine old b =
    let still = (b.before old).phases i h mine in
    elim b.part [
      | inl o ↦ tag_phase b.between v i h a o ∙ still
      | inr f ↦ ap (λ u. phase_of u (Node i) h) f.1 ∙ still
    ]

clear_phase : (p : Participant) (h : ServiceHash) (m : ℕ) (r : Option Row) (s : Option Segment) (c : ℕ) (new : ServiceView) → view_after p h act.RemoveSegment (at.Leaving m) r s c ≡ Some new → new.phase ≡ at.Cleared m
clear_phase p h m r s c new e = let same : record { phase = at.Cleared m; row = r; segment = None; counter = c } ≡ new = cc in λ j. (sym same j).phase

-- a removal of the segment by who left as the last
pub segment_removed_phase : {own : ℕ → Bool} (w v : World) (i : ℕ) (h : ServiceHash) (m : ℕ) (a : _) → own i ≡ true → Agrees w → phase_of w (Node i) h ≡ at.Leaving m → IsFallibleUnder own w (letter.RemoveSegment i h (Ok a)) v → phase_of v (Node i) h ≡ at.Cleared m
segment_removed_phase w v i h m a mine old is e =
    let b = granted w (letter.RemoveSegment i h (Ok a)) v (λ x. cc) e in
    let was = (b.before old).phases i h mine ∙ is in
    let done = clearing b.between v i h a b.part in
    let st = allowed_step b.between v (Node i) h act.RemoveSegment done in
    own_phase b.between v i h act.RemoveSegment st ∙ clear_phase (Node i) h m (row_of b.between h) (segment_of b.between h) (b.between).counter st.view (subst (λ x. view_after (Node i) h act.RemoveSegment x (row_of b.between h) (segment_of b.between h) (b.between).counter ≡ Some st.view) was st.is)
