-- A create where its service has no row, whatever segment was left there, at one node and in the world.
use Rattle.std.proofs.Common.{◌≡◌, ℕ, zero, suc, ◌+◌, ◌<◌, Bool, true, false, List, ◌∷◌, ◌++◌, Option, Some, None, Result, Ok, Err, ◌⊎◌, inl, inr, refl, sym, ap, subst, ◌∙◌, arith}
use Rattle.std.specs.Prelude.{nat_lt}
use Rattle.std.proofs.lemmas.Bool.Decides.{nat_tests}
use Rattle.iceoryx2_description.specs.declared.description.ServiceHash.{ServiceHash}
use Rattle.iceoryx2_description.specs.Description.{Description, max_nodes_of}
use Rattle.iceoryx2_access.specs.declared.storage.Tag.{Tag}
use Rattle.iceoryx2_access.specs.declared.storage.RemoveError.{RemoveError}
use Rattle.iceoryx2_access.specs.declared.storage.MakeSegmentError.{MakeSegmentError}
use Rattle.iceoryx2_access.specs.declared.storage.MakeSegmentError.TheVariants as Making
use Rattle.iceoryx2_access.specs.declared.storage.PublishError.TheVariants as Publishing
use Rattle.iceoryx2_access.specs.Letter.{Letter}
use Rattle.iceoryx2_access.specs.Letter as letter
use Rattle.iceoryx2_access.specs.Run.{Run}
use Rattle.iceoryx2_access.specs.Registered.{Registered}
use Rattle.iceoryx2_access.proofs.Run.{head, split, last}
use Rattle.iceoryx2_world.specs.declared.world.Participant.{Participant}
use Rattle.iceoryx2_world.specs.declared.world.Participant.TheVariants.{Node}
use Rattle.iceoryx2_world.specs.declared.world.Phase.{Phase}
use Rattle.iceoryx2_world.specs.declared.world.Phase.TheVariants as at
use Rattle.iceoryx2_world.specs.declared.world.Row.{Row}
use Rattle.iceoryx2_world.specs.World.{World, Segment, Tickets, row_of, segment_of, phase_of, tag_of, begins, locked_number}
use Rattle.iceoryx2_world.specs.ServiceAgreement.{AgreesAt}
use Rattle.iceoryx2_world.specs.Agreement.{Agrees}
use Rattle.iceoryx2_world.specs.Access.{NodeView, node_view, node_view_after, IsOwnPart}
use Rattle.iceoryx2_world.proofs.agreement.Whole.{own_hash}
use Rattle.iceoryx2_rounds.specs.declared.pattern.CreateRefusal.{CreateRefusal}
use Rattle.iceoryx2_rounds.specs.declared.pattern.CreateRefusal.TheVariants as refusal
use Rattle.iceoryx2_rounds.specs.PatternRules.{PatternRules}
use Rattle.iceoryx2_rounds.specs.Refusals.{of_lock, of_publish}
use Rattle.iceoryx2_rounds.proofs.MakeSteps.{not_there, without_memory}
use Rattle.iceoryx2_rounds.specs.Segments.{IsSegmentWord, clearings}
use Rattle.iceoryx2_rounds.specs.Segments as segment
use Rattle.iceoryx2_rounds.specs.Creates.{IsEntryWord, IsServiceWord, IsCreating, IsCreateWord, clock_stops, description_of, time_of}
use Rattle.iceoryx2_rounds.specs.Creates as create
use Rattle.iceoryx2_rounds.specs.Prepared.{unprepared, prepared, IsCreateCall}
use Rattle.iceoryx2_rounds.specs.declared.caller.Caller.{Caller}
use Rattle.iceoryx2_call_laws.specs.OverNoRow.{AnswersOverNoRow, made, forbidden, no_time, no_number, no_memory}
use Rattle.iceoryx2_call_laws.proofs.quiet.NodeViews.{AtNode, move_all}
use Rattle.iceoryx2_call_laws.proofs.quiet.Here.{create_here}
use Rattle.iceoryx2_call_laws.proofs.quiet.Absent.{into, ended, from, same_number, over, at_lock, locked, with_segment, lock_over, lock_refused, make_and, Makes, makes, makes_none, segment_part, segment_refused, segment_there, publish_made, begun, entry, entry_refused, entry_made}

-- where no row is, who agrees holds nothing there
begins_without : (c : ℕ) (h : ServiceHash) (r : Option Row) (s : Option Segment) (phase : Participant → Phase) → AgreesAt c h r s phase → r ≡ None → (p : Participant) (x : Phase) → phase p ≡ x → begins x ≡ true
begins_without c h r s phase a gone p at.Idle e = refl
begins_without c h r s phase a gone p (at.Read n) e = refl
begins_without c h r s phase a gone p (at.Locked n) e = let is = a.locked p n (ap locked_number e) in absurd (cc)
begins_without c h r s phase a gone p (at.Made n) e = let is = a.locked p n (ap locked_number e) in absurd (cc)
begins_without c h r s phase a gone p (at.Joined n k) e = let is = (a.joined p n k e).1.1 in absurd (cc)
begins_without c h r s phase a gone p (at.Leaving n) e = let is = (a.leaving p n e).0.1 in absurd (cc)
begins_without c h r s phase a gone p (at.Cleared n) e = let is = (a.cleared p n e).0.1 in absurd (cc)

module _ (i : ℕ) (h : ServiceHash) where
  -- the segment that was left is found once and removed
  find_left : (n m c : ℕ) (k : Tickets) (y : Segment) {a : Result (Unit {0}) MakeSegmentError} {t : NodeView} → nat_lt 0 m ≡ true → AtNode i h (at_lock n (Some y) c k) (letter.MakeSegment i h n m a) t → (a ≡ Err Making.AlreadyExists) × (t ≡ at_lock n (Some y) c k)
  find_left n m c k y positive r = let own = rw (same_number n, positive) at r.own in (own.0, r.is ∙ ap (node_view_after _) own.1)

  clear_left : (n c : ℕ) (k : Tickets) (s : Option Segment) {a : Result (Unit {0}) RemoveError} {t : NodeView} → AtNode i h (at_lock n s c k) (letter.RemoveSegment i h a) t → (a ≡ Ok tt) × (t ≡ locked n c k)
  clear_left n c k s r = (r.own.0, r.is ∙ ap (node_view_after _) r.own.1)

  left_clearings : (n m c : ℕ) (k : Tickets) (y : Segment) (j : ℕ) {t : NodeView} → nat_lt 0 m ≡ true → Run (AtNode i h) (at_lock n (Some y) c k) (clearings i h n m (suc j)) t → t ≡ locked n c k
  left_clearings n m c k y zero positive r =
      let f = head r in
      (clear_left n c k (Some y) (last (from (find_left n m c k y positive f.first).1 f.rest))).1
  left_clearings n m c k y (suc j) positive r =
      let s = split (clearings i h n m (suc j)) _ r in
      elim (make_and i h n m c k positive (from (left_clearings n m c k y j positive s.first) s.second)) [ inl z ↦ absurd (grind (arith, z.0)) | inr z ↦ absurd (grind (arith, z.0)) ]

  make_next : (n m c : ℕ) (k : Tickets) (y : Segment) (j : ℕ) {a : Result (Unit {0}) MakeSegmentError} {w : List Letter} {t : NodeView} → nat_lt 0 m ≡ true → Run (AtNode i h) (at_lock n (Some y) c k) (clearings i h n m (suc j) ++ letter.MakeSegment i h n m a ∷ w) t → ((a ≡ Ok tt) × Run (AtNode i h) (with_segment i h n m c k) w t) ⊎ ((a ≡ Err Making.OutOfMemory) × Run (AtNode i h) (locked n c k) w t)
  make_next n m c k y j positive r = let s = split (clearings i h n m (suc j)) _ r in make_and i h n m c k positive (from (left_clearings n m c k y j positive s.first) s.second)

  left_part : (n m c : ℕ) (k : Tickets) (y : Segment) {a : Result (Unit {0}) CreateRefusal} {w : List Letter} {t : NodeView} → nat_lt 0 m ≡ true → IsSegmentWord i h n m w a → Run (AtNode i h) (at_lock n (Some y) c k) w t → Makes i h n m c k a t
  left_part n m c k y positive (segment.made zero le) r = let f = find_left n m c k y positive (last r) in absurd (grind (arith, f.0))
  left_part n m c k y positive (segment.made (suc j) le) r = elim (make_next n m c k y j positive r) [ inl z ↦ into (Makes i h n m c k) refl (ended z.1) makes | inr z ↦ absurd (grind (arith, z.0)) ]
  left_part n m c k y positive (segment.not_made zero e le other) r = let f = find_left n m c k y positive (last r) in absurd (not_there other (cc (f.0)))
  left_part n m c k y positive (segment.not_made (suc j) e le other) r = elim (make_next n m c k y j positive r) [ inl z ↦ absurd (grind (arith, z.0)) | inr z ↦ let is : e ≡ Making.OutOfMemory = cc in into (Makes i h n m c k) (ap Err (without_memory other is)) (ended z.1) makes_none ]
  left_part n m c k y positive (segment.not_removed zero e lt) r =
      let f = head r in
      let g = clear_left n c k (Some y) (last (from (find_left n m c k y positive f.first).1 f.rest)) in
      absurd (grind (arith, g.0))
  left_part n m c k y positive (segment.not_removed (suc j) e lt) r = elim (make_next n m c k y j positive r) [ inl z ↦ absurd (grind (arith, z.0)) | inr z ↦ absurd (grind (arith, z.0)) ]
  left_part n m c k y positive segment.still_there r = elim (make_next n m c k y 4 positive r) [ inl z ↦ absurd (grind (arith, z.0)) | inr z ↦ absurd (grind (arith, z.0)) ]

  any_part : (n m c : ℕ) (k : Tickets) (s : Option Segment) {a : Result (Unit {0}) CreateRefusal} {w : List Letter} {t : NodeView} → nat_lt 0 m ≡ true → IsSegmentWord i h n m w a → Run (AtNode i h) (at_lock n s c k) w t → Makes i h n m c k a t
  any_part n m c k None positive is r = segment_part i h n m c k positive is r
  any_part n m c k (Some y) positive is r = left_part n m c k y positive is r

module _ {E C : Type 0} (m : PatternRules E C) (caller : Caller) (x : Phase) (s : Option Segment) (c : ℕ) (k : Tickets) (b : begins x ≡ true) where
  abbrev i : ℕ
  i = caller.node

  abbrev h : ServiceHash
  h = caller.hash

  abbrev d : Description
  d = description_of m caller

  abbrev stops : Bool
  stops = clock_stops m.needs_clock caller.clock

  abbrev Answers : Result Registered C → Type 0
  Answers a = AnswersOverNoRow m caller c a

  answers : {e : CreateRefusal} → e ≡ refusal.OutOfMemory → Answers (Err (m.create_refusal e))
  answers is = subst (λ z. Answers (Err (m.create_refusal z))) (sym is) no_memory

  module _ (positive : nat_lt 0 (max_nodes_of d.pattern) ≡ true) where
    serving : {tag : Tag} {a : Result Registered C} {w : List Letter} {t : NodeView} → m.settings_refusal ≡ None → stops ≡ false → IsServiceWord m i h d tag w a → Run (AtNode i h) (over x s c true k) w t → Answers a
    serving fits runs (create.not_locked z g) r =
        let f = head r in
        elim (lock_refused i h (lock_over i h x s c k _ _ b f.first)) [
          | inl y ↦ answers (ap of_lock y.0)
          | inr y ↦ subst (λ q. Answers (Err (m.create_refusal (of_lock q)))) (sym y.0) (no_number fits runs (grind (arith, nat_tests, y.2)))
        ]
    serving fits runs (create.no_segment {v = v} {n = n} is g) r =
        let f = begun i h x s c k b r in
        let p = split v _ f.rest in
        answers (segment_refused i h (any_part i h n (max_nodes_of d.pattern) (c + 1) k s positive is p.first)).0
    serving fits runs (create.not_published {v = v} {n = n} z is g) r =
        let f = begun i h x s c k b r in
        let p = split v _ f.rest in
        let q = head (from (segment_there i h (any_part i h n (max_nodes_of d.pattern) (c + 1) k s positive is p.first)) p.second) in
        elim (publish_made i h d n (c + 1) k _ _ (own_hash h) q.first) [
          | inl y ↦ absurd (grind (arith, y.0))
          | inr y ↦ let why : z ≡ Publishing.OutOfMemory = cc in answers (ap of_publish why)
        ]
    serving fits runs (create.published {v = v} n j is) r =
        let f = begun i h x s c k b r in
        let p = split v _ f.rest in
        let q = last (from (segment_there i h (any_part i h n (max_nodes_of d.pattern) (c + 1) k s positive is p.first)) p.second) in
        elim (publish_made i h d n (c + 1) k _ _ (own_hash h) q) [
          | inl y ↦ let own : j ≡ n = cc in subst Answers (λ z. Ok (record { node = i; number = sym f.number z; ticket = sym (own ∙ f.number) z; description = d })) (made fits runs (grind (arith, nat_tests, f.counter)))
          | inr y ↦ absurd (grind (arith, y.0))
        ]

    answering : (g : Bool) {a : Result Registered C} {w : List Letter} {t : NodeView} → IsCreateWord m caller w a → Run (AtNode i h) (over x s c g k) w t → Answers a
    answering g (create.forbidden bad) r = forbidden bad
    answering g (create.not_entered fits e) r = subst (λ z. Answers (Err z)) (sym (entry_refused m i h (entry m i h x s c g k b e r)).0) no_memory
    answering g (create.clock_fault fits stopped e back) r = no_time fits stopped
    answering g (create.made {u = u} fits runs e is) r =
        let p = split u _ r in
        serving fits runs is (from (entry_made m i h (entry m i h x s c g k b e p.first)).1 p.second)

module _ {E C : Type 0} (m : PatternRules E C) (caller : Caller) where
  -- In the world, also where the types are prepared first.
  pub create_over_no_row : {word : List Letter} {answer : Result Registered C} {w v : World} → 0 < max_nodes_of (m.published (time_of caller.clock)) → Agrees w → row_of w caller.hash ≡ None → IsCreateCall m caller word answer → Run IsOwnPart w word v → AnswersOverNoRow m caller w.counter answer
  create_over_no_row room old gone unprepared run = no_memory
  create_over_no_row {w = w} room old gone (prepared is) run =
      let i = caller.node in
      let h = caller.hash in
      let all = move_all i h (create_here is) run in
      let b = begins_without w.counter h (row_of w h) (segment_of w h) (λ p. phase_of w p h) (old.everywhere h) gone (Node i) (phase_of w (Node i) h) refl in
      let start : node_view w i h ≡ over (phase_of w (Node i) h) (segment_of w h) w.counter (tag_of w i h) w.tickets = λ j. record { view = record { phase = phase_of w (Node i) h; row = gone j; segment = segment_of w h; counter = w.counter }; tag = tag_of w i h; tickets = w.tickets } in
      answering m caller (phase_of w (Node i) h) (segment_of w h) w.counter w.tickets b (grind (arith, nat_tests, room)) (tag_of w i h) is (from start all.at)
