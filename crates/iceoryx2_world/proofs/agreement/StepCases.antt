-- An allowed step is one of the fourteen, and each of these is allowed.
use Rattle.std.proofs.Common.{◌≡◌, ℕ, ◌+◌, ◌-◌, ◌<◌, Bool, true, false, cond, List, Option, Some, None, refl, sym, ap, subst, ◌∙◌, arith}
use mathlib.Core.Bool.{true≢false}
use Rattle.std.specs.Prelude.{nat_lt, ◌==◌, ◌&&◌, if◌then◌else◌}
use Rattle.std.specs.Ordering.{is_eq}
use Rattle.std.specs.Cmp.{Equal-is, tied_itself}
use Rattle.std.proofs.lemmas.Bool.Decides.{nat_tests}
use Rattle.iceoryx2_world.specs.Sets as set
use Rattle.iceoryx2_world.specs.declared.world.Participant.{Participant}
use Rattle.iceoryx2_description.specs.declared.description.ServiceHash.{ServiceHash}
use Rattle.iceoryx2_world.specs.declared.world.Phase.{Phase}
use Rattle.iceoryx2_world.specs.declared.world.Phase.TheVariants as at
use Rattle.iceoryx2_world.specs.declared.world.Row.{Row}
use Rattle.iceoryx2_world.specs.declared.world.Row.TheVariants as row
use Rattle.iceoryx2_world.specs.Orders.{hash_cmp, hash_exact, hash_total}
use Rattle.iceoryx2_world.specs.World.{Segment, begins, locked_number, is_last}
use Rattle.iceoryx2_description.specs.Description.{Description, max_nodes_of}
use Rattle.iceoryx2_world.specs.Acts.{Act, Read, Lock, RemoveSegment, RemoveDescription, Make, Publish, Join, Leave}
use Rattle.iceoryx2_world.specs.StepCases.{IsStep, reads, locks, clears, makes, unmakes, unlocks, publishes, joins, joins_again, leaves_once, leaves, leaves_last, clears_last, ends}
use Rattle.iceoryx2_world.specs.Steps.{ServiceView, view_after, to_view, new_segment, with_one, without_one, without_any, row_for, leave_of, has_room, has_others, fits, last_number}

module _ (P : ServiceView → Type 0) where
  always : (v new : ServiceView) → Some v ≡ Some new → P v → P new
  always v new e k = let same : v ≡ new = cc in subst P same k

  -- where a test decides
  tested : (v new : ServiceView) (b : Bool) → cond b (Some v) None ≡ Some new → (b ≡ true → P v) → P new
  tested v new true e k = always v new e (k refl)
  tested v new false e k = absurd (cc)

  either : (u v new : ServiceView) (b : Bool) → cond b (Some u) (Some v) ≡ Some new → (b ≡ true → P u) → (b ≡ false → P v) → P new
  either u v new true e x y = always u new e (x refl)
  either u v new false e x y = always v new e (y refl)

pub fits_means : (d : Description) (h : ServiceHash) (s : Segment) → fits h s d ≡ true → (d.hash ≡ h) × (max_nodes_of d.pattern ≡ s.capacity)
fits_means d h s e =
    elim (is_eq (hash_cmp d.hash h)) as (λ b. is_eq (hash_cmp d.hash h) ≡ b → (b && max_nodes_of d.pattern == s.capacity) ≡ true → (d.hash ≡ h) × (max_nodes_of d.pattern ≡ s.capacity)) [
      | true ↦ λ t n. (hash_exact d.hash h ((Equal-is (hash_cmp d.hash h)).0 t), grind (arith, nat_tests))
      | false ↦ λ t n. absurd (true≢false (sym n))
    ] refl e

room_means : (n : ℕ) (s : Segment) → has_room n s ≡ true → (s.number ≡ n) × (s.marked ≡ false) × (set.len s.participants < s.capacity)
room_means n s e = grind (arith, nat_tests)

module _ (p : Participant) (h : ServiceHash) where
  leave_case : (n k : ℕ) (r : Option Row) (s : Option Segment) (c : ℕ) (new : ServiceView) → k ≡ 1 → leave_of p n r s c ≡ Some new
      → IsStep p h Leave (at.Joined n k) r s c new
  leave_case n k r None c new one e = absurd (cc)
  leave_case n k r (Some s) c new one e = either (IsStep p h Leave (at.Joined n k) r (Some s) c) _ _ new (has_others s) e
      (λ t. leaves one (grind (arith, nat_tests))) (λ t. leaves_last one (grind (arith, nat_tests)))

  leave_cases : (n k : ℕ) (r : Option Row) (s : Option Segment) (c : ℕ) (new v : ServiceView) (o : Option ServiceView) (a b : Bool)
      → (a ≡ true → IsStep p h Leave (at.Joined n k) r s c v)
      → (b ≡ true → o ≡ Some new → IsStep p h Leave (at.Joined n k) r s c new)
      → cond a (Some v) (cond b o None) ≡ Some new → IsStep p h Leave (at.Joined n k) r s c new
  leave_cases n k r s c new v o true b x y e = always (IsStep p h Leave (at.Joined n k) r s c) v new e (x refl)
  leave_cases n k r s c new v o false true x y e = y refl e
  leave_cases n k r s c new v o false false x y e = absurd (cc)

  -- Each allowed step is one of them.
  pub step_case : (act : Act) (x : Phase) (r : Option Row) (s : Option Segment) (c : ℕ) (new : ServiceView) → view_after p h act x r s c ≡ Some new
      → IsStep p h act x r s c new
  step_case Read at.Idle (Some (row.Published n b)) s c new e = always (IsStep p h _ _ _ s c) _ new e (reads refl)
  step_case Read (at.Read m) (Some (row.Published n b)) s c new e = always (IsStep p h _ _ _ s c) _ new e (reads refl)
  step_case Lock at.Idle None s c new e = tested (IsStep p h _ _ _ s c) _ new (nat_lt c last_number) e (λ t. locks refl (grind (arith, nat_tests)))
  step_case Lock (at.Read m) None s c new e = tested (IsStep p h _ _ _ s c) _ new (nat_lt c last_number) e (λ t. locks refl (grind (arith, nat_tests)))
  step_case RemoveSegment (at.Locked n) r s c new e = always (IsStep p h _ _ r s c) _ new e clears
  step_case (Make m) (at.Locked n) r None c new e = tested (IsStep p h _ _ r None c) _ new (nat_lt 0 m) e (λ t. makes (grind (arith, nat_tests)))
  step_case RemoveSegment (at.Made n) r s c new e = always (IsStep p h _ _ r s c) _ new e unmakes
  step_case RemoveDescription (at.Locked n) r s c new e = always (IsStep p h _ _ r s c) _ new e (unlocks refl)
  step_case RemoveDescription (at.Made n) r s c new e = always (IsStep p h _ _ r s c) _ new e (unlocks refl)
  step_case (Publish d) (at.Made n) r (Some s) c new e =
      tested (IsStep p h _ _ r (Some s) c) _ new (fits h s d) e (λ t. let m = fits_means d h s t in publishes m.0 m.1)
  step_case Join (at.Read n) r (Some s) c new e =
      tested (IsStep p h _ _ r (Some s) c) _ new (has_room n s) e (λ t. let m = room_means n s t in joins m.0 m.1 m.2)
  step_case Join (at.Joined n k) r s c new e = tested (IsStep p h _ _ r s c) _ new (nat_lt k last_number) e (λ t. joins_again (grind (arith, nat_tests)))
  step_case Leave (at.Joined n k) r s c new e = leave_cases n k r s c new _ _ (nat_lt 1 k) (k == 1)
      (λ t. leaves_once (grind (arith, nat_tests))) (λ t o. leave_case n k r s c new (grind (arith, nat_tests)) o) e
  step_case RemoveSegment (at.Leaving n) r s c new e = always (IsStep p h _ _ r s c) _ new e clears_last
  step_case RemoveDescription (at.Leaving n) r s c new e = always (IsStep p h _ _ r s c) _ new e (ends refl)
  step_case RemoveDescription (at.Cleared n) r s c new e = always (IsStep p h _ _ r s c) _ new e (ends refl)
  step_case _ _ _ _ _ new e = absurd (cc)

  reads_allowed : (x : Phase) (n : ℕ) (b : List ℕ) (s : Option Segment) (c : ℕ) → begins x ≡ true
      → view_after p h Read x (Some (row.Published n b)) s c ≡ to_view (at.Read n) (Some (row.Published n b)) s c
  reads_allowed at.Idle n b s c e = refl
  reads_allowed (at.Read m) n b s c e = refl
  reads_allowed _ n b s c e = absurd (cc)

  locks_allowed : (x : Phase) (s : Option Segment) (c : ℕ) → begins x ≡ true → nat_lt c last_number ≡ true
      → view_after p h Lock x None s c ≡ to_view (at.Locked c) (Some (row.Locked c)) s (c + 1)
  locks_allowed at.Idle s c e t = ap (λ (u : Bool). if u then to_view (at.Locked c) (Some (row.Locked c)) s (c + 1) else None) t
  locks_allowed (at.Read m) s c e t = ap (λ (u : Bool). if u then to_view (at.Locked c) (Some (row.Locked c)) s (c + 1) else None) t
  locks_allowed _ s c e t = absurd (cc)

  unlocks_allowed : (x : Phase) (n : ℕ) (r : Option Row) (s : Option Segment) (c : ℕ) → locked_number x ≡ Some n
      → view_after p h RemoveDescription x r s c ≡ to_view at.Idle None s c
  unlocks_allowed (at.Locked m) n r s c e = refl
  unlocks_allowed (at.Made m) n r s c e = refl
  unlocks_allowed _ n r s c e = absurd (cc)

  ends_allowed : (x : Phase) (r : Option Row) (s : Option Segment) (c : ℕ) → is_last x ≡ true
      → view_after p h RemoveDescription x r s c ≡ to_view at.Idle None s c
  ends_allowed (at.Leaving m) r s c e = refl
  ends_allowed (at.Cleared m) r s c e = refl
  ends_allowed _ r s c e = absurd (cc)

  fits_by : (d : Description) (s : Segment) → d.hash ≡ h → max_nodes_of d.pattern ≡ s.capacity → fits h s d ≡ true
  fits_by d s hash nodes =
      let same : is_eq (hash_cmp d.hash h) ≡ true = ap (λ g. is_eq (hash_cmp g h)) hash ∙ ap is_eq (tied_itself hash_total h) in
      let number : (max_nodes_of d.pattern == s.capacity) ≡ true = grind (arith, nat_tests) in
      ap (λ (b : Bool). b && max_nodes_of d.pattern == s.capacity) same ∙ number

  abbrev left : ℕ → ℕ → Option Row → Option Segment → ℕ → Bool → Bool → Option ServiceView
  left n k r s c more one = if more then to_view (at.Joined n (k - 1)) r s c else if one then leave_of p n r s c else None

  abbrev left_once : ℕ → Option Row → Segment → ℕ → Bool → Option ServiceView
  left_once n r s c others = if others then to_view at.Idle r (Some (without_one p s)) c else to_view (at.Leaving n) r (Some (without_any s)) c

  once : (n k : ℕ) (r : Option Row) (s : Option Segment) (c : ℕ) → k ≡ 1 → view_after p h Leave (at.Joined n k) r s c ≡ leave_of p n r s c
  once n k r s c e =
      let more : nat_lt 1 k ≡ false = grind (arith, nat_tests) in
      let one : (k == 1) ≡ true = grind (arith, nat_tests) in
      ap (λ (b : Bool). left n k r s c b (k == 1)) more ∙ ap (λ (b : Bool). left n k r s c false b) one

  -- And each of them is allowed.
  pub case_allowed : {act : Act} {x : Phase} {r : Option Row} {s : Option Segment} {c : ℕ} {new : ServiceView} → IsStep p h act x r s c new
      → view_after p h act x r s c ≡ Some new
  case_allowed (reads {x = x} {n = n} {c = c} {b = b} {s = s} free) = reads_allowed x n b s c free
  case_allowed (locks {x = x} {c = c} {s = s} free below) = locks_allowed x s c free (grind (arith, nat_tests))
  case_allowed clears = refl
  case_allowed (makes {n = n} {m = m} {c = c} {r = r} some) =
      let t : nat_lt 0 m ≡ true = grind (arith, nat_tests) in
      ap (λ (b : Bool). if b then to_view (at.Made n) r (Some (new_segment p n m)) c else None) t
  case_allowed unmakes = refl
  case_allowed (unlocks {x = x} {n = n} {c = c} {r = r} {s = s} lock) = unlocks_allowed x n r s c lock
  case_allowed (publishes {n = n} {c = c} {d = d} {r = r} {s = s} hash nodes) =
      ap (λ (b : Bool). if b then to_view (at.Joined n 1) (Some (row_for n d)) (Some s) c else None) (fits_by d s hash nodes)
  case_allowed (joins {n = n} {c = c} {r = r} {s = s} number unmarked room) =
      let t : has_room n s ≡ true = grind (arith, nat_tests) in
      ap (λ (b : Bool). if b then to_view (at.Joined n 1) r (Some (with_one p s)) c else None) t
  case_allowed (joins_again {n = n} {k = k} {c = c} {r = r} {s = s} below) =
      let t : nat_lt k last_number ≡ true = grind (arith, nat_tests) in
      ap (λ (b : Bool). if b then to_view (at.Joined n (k + 1)) r s c else None) t
  case_allowed (leaves_once {n = n} {k = k} {c = c} {r = r} {s = s} more) =
      let t : nat_lt 1 k ≡ true = grind (arith, nat_tests) in
      ap (λ (b : Bool). left n k r s c b (k == 1)) t
  case_allowed (leaves {n = n} {k = k} {c = c} {r = r} {s = s} one others) =
      let t : has_others s ≡ true = grind (arith, nat_tests) in
      once n k r (Some s) c one ∙ ap (left_once n r s c) t
  case_allowed (leaves_last {n = n} {k = k} {c = c} {r = r} {s = s} one alone) =
      let t : has_others s ≡ false = grind (arith, nat_tests) in
      once n k r (Some s) c one ∙ ap (left_once n r s c) t
  case_allowed clears_last = refl
  case_allowed (ends {x = x} {c = c} {r = r} {s = s} last) = ends_allowed x r s c last
