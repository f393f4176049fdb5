-- What the tests of an access come to is one of its cases, and they come to each of these.
use Rattle.std.proofs.Common.{◌≡◌, ◌≢◌, ℕ, ◌<◌, ◌≤◌, Bool, true, false, ◌⊎◌, inl, inr, List, Option, Some, None, Result, Ok, Err, refl, sym, ap, subst, ◌∙◌, arith}
use mathlib.Core.Bool.{true≢false}
use Rattle.std.specs.Prelude.{nat_lt, ◌==◌, ◌&&◌, if◌then◌else◌, OnOk}
use Rattle.std.specs.FinMap as map
use Rattle.std.specs.Ordering.{is_eq, eq_by_cmp}
use Rattle.std.specs.Cmp.{Equal-is, tied_itself}
use Rattle.std.proofs.lemmas.Bool.Decides.{nat_tests}
use Rattle.iceoryx2_description.specs.declared.description.ServiceHash.{ServiceHash}
use Rattle.iceoryx2_description.specs.Description.{Description, IsDescription}
use Rattle.iceoryx2_world.specs.Sets as set
use Rattle.iceoryx2_world.specs.declared.world.Participant.{Participant}
use Rattle.iceoryx2_world.specs.declared.world.Participant.TheVariants.{Node}
use Rattle.iceoryx2_world.specs.declared.world.Ticket.{Ticket}
use Rattle.iceoryx2_world.specs.declared.world.Phase.{Phase}
use Rattle.iceoryx2_world.specs.declared.world.Phase.TheVariants as at
use Rattle.iceoryx2_world.specs.declared.world.Row.{Row}
use Rattle.iceoryx2_world.specs.declared.world.Row.TheVariants as row
use Rattle.iceoryx2_world.specs.Orders.{hash_cmp, hash_exact, hash_total}
use Rattle.iceoryx2_world.specs.World.{Segment, begins}
use Rattle.iceoryx2_world.specs.Acts.{Act}
use Rattle.iceoryx2_world.specs.Acts as act
use Rattle.iceoryx2_world.specs.Steps.{ServiceView, new_segment, has_room, last_number}
use Rattle.iceoryx2_world.specs.StepCases.{IsStep, reads, locks, makes, joins, joins_again, leaves_once, leaves, leaves_last}
use Rattle.iceoryx2_world.specs.Access.{NodeView, Change, nothing, tag_becomes, view_becomes_with, IsAnswer, IsSureAnswer, or_refused, existence, is_joined, read_change, has_lock, has_made, need, number_refusal, join_refusal, open_refusal, release_answer, own_step, is_ticket, fetch_of, MakesTag, lock_of, make_of, publishing_of, opening_of, release_of, make_answer, publish_answer, open_answer, release_with, IsNodeAnswer}
use Rattle.iceoryx2_world.specs.AccessCases.{IsAccessCase, Takes, IsForbidden, IsUnmarked, MayJoin, IsOwnCase}
use Rattle.iceoryx2_world.specs.AccessCases as case
use Rattle.iceoryx2_access.specs.declared.storage.Existence.{Existence}
use Rattle.iceoryx2_access.specs.declared.storage.FetchError.{FetchError}
use Rattle.iceoryx2_access.specs.declared.storage.FetchError.TheVariants as Fetching
use Rattle.iceoryx2_access.specs.declared.storage.Tag.{Tag}
use Rattle.iceoryx2_access.specs.declared.storage.Tag.TheVariants.{Made, Found}
use Rattle.iceoryx2_access.specs.declared.storage.TagError.{TagError}
use Rattle.iceoryx2_access.specs.declared.storage.TagError.TheVariants as Tagging
use Rattle.iceoryx2_access.specs.declared.storage.RemoveError.{RemoveError}
use Rattle.iceoryx2_access.specs.declared.storage.RemoveError.TheVariants as Removing
use Rattle.iceoryx2_access.specs.declared.storage.LockError.{LockError}
use Rattle.iceoryx2_access.specs.declared.storage.LockError.TheVariants as Locking
use Rattle.iceoryx2_access.specs.declared.storage.MakeSegmentError.{MakeSegmentError}
use Rattle.iceoryx2_access.specs.declared.storage.MakeSegmentError.TheVariants as Making
use Rattle.iceoryx2_access.specs.declared.storage.PublishError.{PublishError}
use Rattle.iceoryx2_access.specs.declared.storage.PublishError.TheVariants as Publishing
use Rattle.iceoryx2_access.specs.declared.storage.OpenSegmentError.{OpenSegmentError}
use Rattle.iceoryx2_access.specs.declared.storage.OpenSegmentError.TheVariants as Opening
use Rattle.iceoryx2_access.specs.declared.storage.Release.{Release as Released}
use Rattle.iceoryx2_access.specs.declared.storage.ReleaseError.{ReleaseError}
use Rattle.iceoryx2_access.specs.declared.storage.ReleaseError.TheVariants.{NoSuchTicket}
use Rattle.iceoryx2_access.specs.Letter.{Letter, acting_node, service_of}
use Rattle.iceoryx2_access.specs.Letter as letter
use Rattle.iceoryx2_world.proofs.agreement.StepCases.{step_case, case_allowed}

-- an answer and a change, by the ones that they are
module _ {A : Type 0} (P : A → Change → Type 0) where
  same_case : {a b : A} {c d : Change} → (a ≡ b) × (c ≡ d) → P b d → P a c
  same_case {b = b} {c = c} i k = subst (λ r. P r c) (sym i.0) (subst (P b) (sym i.1) k)

  either_case : {a b e : A} {c d : Change} → ((a ≡ b) × (c ≡ d)) ⊎ ((a ≡ e) × (c ≡ nothing)) → P b d → P e nothing → P a c
  either_case (inl i) granted starved = same_case i granted
  either_case (inr i) granted starved = same_case i starved

module _ {A E : Type 0} where
  pub answered : (no_memory : E) {x : Result (A × Change) E} {a : A} {c : Change} → x ≡ Ok (a, c) → IsAnswer no_memory x (Ok a) c
  answered no_memory {a = a} {c = c} e = subst (λ z. IsAnswer no_memory z (Ok a) c) (sym e) (inl (refl, refl))

  pub starved : (no_memory : E) {x : Result (A × Change) E} {y : A × Change} → x ≡ Ok y → IsAnswer no_memory x (Err no_memory) nothing
  starved no_memory e = subst (λ z. IsAnswer no_memory z (Err no_memory) nothing) (sym e) (inr (refl, refl))

  pub refused : (no_memory : E) {x : Result (A × Change) E} {e : E} → x ≡ Err e → IsAnswer no_memory x (Err e) nothing
  refused no_memory {e = e} is = subst (λ z. IsAnswer no_memory z (Err e) nothing) (sym is) (refl, refl)

  pub surely_answered : {x : Result (A × Change) E} {a : A} {c : Change} → x ≡ Ok (a, c) → IsSureAnswer x (Ok a) c
  surely_answered {a = a} {c = c} e = subst (λ z. IsSureAnswer z (Ok a) c) (sym e) (refl, refl)

  pub surely_refused : {x : Result (A × Change) E} {e : E} → x ≡ Err e → IsSureAnswer x (Err e) nothing
  surely_refused {e = e} is = subst (λ z. IsSureAnswer z (Err e) nothing) (sym is) (refl, refl)

none_unless : (o : Option ServiceView) → ((y : ServiceView) → o ≡ Some y → ⊥) → o ≡ None
none_unless None f = refl
none_unless (Some y) f = absurd (f y refl)

-- what some steps need
read_begins : {p : Participant} {h : ServiceHash} {x : Phase} {r : Option Row} {s : Option Segment} {c : ℕ} {y : ServiceView} → IsStep p h act.Read x r s c y → begins x ≡ true
read_begins (reads free) = free

lock_below : {p : Participant} {h : ServiceHash} {x : Phase} {r : Option Row} {s : Option Segment} {c : ℕ} {y : ServiceView} → IsStep p h act.Lock x r s c y → c < last_number
lock_below (locks free below) = below

data LeavesBy (y : ServiceView) : Type 0 where
  counted : {n k : ℕ} → y.phase ≡ at.Joined n k → LeavesBy y
  left : y.phase ≡ at.Idle → LeavesBy y
  last : {n : ℕ} → y.phase ≡ at.Leaving n → LeavesBy y

leaves_by : {p : Participant} {h : ServiceHash} {x : Phase} {r : Option Row} {s : Option Segment} {c : ℕ} {y : ServiceView} → IsStep p h act.Leave x r s c y → LeavesBy y
leaves_by (leaves_once more) = counted refl
leaves_by (leaves one others) = left refl
leaves_by (leaves_last one alone) = last refl

joins_below : {p : Participant} {h : ServiceHash} {x : Phase} {r : Option Row} {s : Option Segment} {c : ℕ} {y : ServiceView} {n k : ℕ} → IsStep p h act.Join x r s c y → x ≡ at.Joined n k
    → k < last_number
joins_below (joins number unmarked room) e = absurd (cc)
joins_below {k = k} (joins_again {k = j} below) e = let is : j ≡ k = cc in grind (arith, below, is)

-- tests, and what they say
pub same_number : (m n : ℕ) → (m == n) ≡ true → m ≡ n
same_number m n e = grind (arith, nat_tests)

other_number : (m n : ℕ) → (m == n) ≡ false → m ≢ n
other_number m n e i = absurd (grind (arith, nat_tests))

is_number : (m n : ℕ) → m ≡ n → (m == n) ≡ true
is_number m n e = grind (arith, nat_tests)

not_joined : (f : Phase) → ((n k : ℕ) → f ≢ at.Joined n k) → is_joined f ≡ false
not_joined (at.Joined n k) other = absurd (other n k refl)
not_joined _ other = refl

lock_means : (f : Phase) (n : ℕ) → has_lock n f ≡ true → f ≡ at.Locked n
lock_means (at.Locked m) n e = ap at.Locked (same_number m n e)
lock_means _ n e = absurd (cc)

locked_has : (f : Phase) (n : ℕ) → f ≡ at.Locked n → has_lock n f ≡ true
locked_has f n e = let same : (n == n) ≡ true = grind (arith, nat_tests) in ap (has_lock n) e ∙ same

made_means : (f : Phase) (n : ℕ) → has_made n f ≡ true → f ≡ at.Made n
made_means (at.Made m) n e = ap at.Made (same_number m n e)
made_means _ n e = absurd (cc)

made_has : (f : Phase) (n : ℕ) → f ≡ at.Made n → has_made n f ≡ true
made_has f n e = let same : (n == n) ≡ true = grind (arith, nat_tests) in ap (has_made n) e ∙ same

not_true : (b : Bool) → (b ≡ true → ⊥) → b ≡ false
not_true true f = absurd (f refl)
not_true false f = refl

room_left : (n : ℕ) (x : Segment) → has_room n x ≡ true → set.len x.participants < x.capacity
room_left n x e = grind (arith, nat_tests)

no_room : (n : ℕ) (x : Segment) → has_room n x ≡ false → x.number ≡ n → x.marked ≡ false → x.capacity ≤ set.len x.participants
no_room n x e number unmarked = grind (arith, nat_tests, e, number, unmarked)

module _ (i : ℕ) (h : ServiceHash) where
  taken : {a : Act} {x y : ServiceView} → own_step i h a x ≡ Some y → Takes i h a x y
  taken {a} {x} {y} e = step_case (Node i) h a x.phase x.row x.segment x.counter y e

  allowed : {a : Act} {x y : ServiceView} → Takes i h a x y → own_step i h a x ≡ Some y
  allowed t = case_allowed (Node i) h t

  forbidden : {a : Act} {x : ServiceView} → own_step i h a x ≡ None → IsForbidden i h a x
  forbidden e y t = let is = allowed t in absurd (cc)

  no_step : {a : Act} {x : ServiceView} → IsForbidden i h a x → own_step i h a x ≡ None
  no_step f = none_unless _ (λ y e. f y (taken e))

  ticket_means : (n : ℕ) (t : Ticket) (a : Bool) → (t.node == i) ≡ a → (b : Bool) → is_eq (hash_cmp t.hash h) ≡ b → (a && b && t.number == n) ≡ true
      → Some t ≡ Some (record { node = i; hash = h; number = n })
  ticket_means n t true node true hash e =
      let node_is : t.node ≡ i = same_number t.node i node in
      let hash_is : t.hash ≡ h = hash_exact t.hash h ((Equal-is (hash_cmp t.hash h)).0 hash) in
      let number_is : t.number ≡ n = same_number t.number n e in
      λ j. Some (record { node = node_is j; hash = hash_is j; number = number_is j })
  ticket_means n t true node false hash e = absurd (cc)
  ticket_means n t false node b hash e = absurd (cc)

  is_ticket_means : (n : ℕ) (o : Option Ticket) → is_ticket i h n o ≡ true → o ≡ Some (record { node = i; hash = h; number = n })
  is_ticket_means n None e = absurd (cc)
  is_ticket_means n (Some t) e = ticket_means n t (t.node == i) refl (is_eq (hash_cmp t.hash h)) refl e

  ticket_is : (n : ℕ) (o : Option Ticket) → o ≡ Some (record { node = i; hash = h; number = n }) → is_ticket i h n o ≡ true
  ticket_is n o e =
      let node : (i == i) ≡ true = grind (arith, nat_tests) in
      let hash : is_eq (hash_cmp h h) ≡ true = ap is_eq (tied_itself hash_total h) in
      let number : (n == n) ≡ true = grind (arith, nat_tests) in
      ap (is_ticket i h n) e ∙ ap (λ (a : Bool). a && eq_by_cmp hash_cmp h h && n == n) node ∙ ap (λ (b : Bool). b && n == n) hash ∙ number

  module _ (s : NodeView) where
    exists_case : (r : Option Row) (a : Existence) (c : Change) → s.view.row ≡ r → (a ≡ existence r) × (c ≡ nothing) → IsAccessCase s (letter.Exists h a) c
    exists_case None a c e k = same_case (λ a c. IsAccessCase s (letter.Exists h a) c) k (case.is_absent e)
    exists_case (Some (row.Locked n)) a c e k = same_case (λ a c. IsAccessCase s (letter.Exists h a) c) k (case.is_being_set_up e)
    exists_case (Some (row.Published n b)) a c e k = same_case (λ a c. IsAccessCase s (letter.Exists h a) c) k (case.is_there e)

    begins_reads : (n : ℕ) (b : List ℕ) → s.view.row ≡ Some (row.Published n b) → begins s.view.phase ≡ true → (y : ServiceView) × Takes i h act.Read s.view y
    begins_reads n b e free = (
      record { phase = at.Read n; row = Some (row.Published n b); segment = s.view.segment; counter = s.view.counter },
      subst (λ r. IsStep (Node i) h act.Read s.view.phase r s.view.segment s.view.counter (record { phase = at.Read n; row = Some (row.Published n b); segment = s.view.segment; counter = s.view.counter })) (sym e) (reads free),
    )

    fetched : (n : ℕ) (b : List ℕ) → s.view.row ≡ Some (row.Published n b) → (o : Option ServiceView) → own_step i h act.Read s.view ≡ o
        → IsAccessCase s (letter.Fetch i h (Ok (n, b))) (read_change o)
    fetched n b e None o = case.fetch_sees e (not_true (begins s.view.phase) (λ free. let t = begins_reads n b e free in forbidden o t.0 t.1))
    fetched n b e (Some y) o = let t = taken o in case.fetch_reads e (read_begins t) t

    fetch_case : (r : Option Row) (a : Result (ℕ × List ℕ) FetchError) (c : Change) → s.view.row ≡ r → IsAnswer Fetching.OutOfMemory (fetch_of i h s.view r) a c
        → IsAccessCase s (letter.Fetch i h a) c
    fetch_case None a c e k = same_case (λ a c. IsAccessCase s (letter.Fetch i h a) c) k (case.fetch_absent e)
    fetch_case (Some (row.Locked n)) a c e k = same_case (λ a c. IsAccessCase s (letter.Fetch i h a) c) k (case.fetch_locked e)
    fetch_case (Some (row.Published n b)) a c e k = either_case (λ a c. IsAccessCase s (letter.Fetch i h a) c) k (fetched n b e _ refl) (case.fetch_starves e)

    counts_case : (f : Phase) (a : Bool) (c : Change) → s.view.phase ≡ f → (a ≡ is_joined f) × (c ≡ nothing) → IsAccessCase s (letter.Counts i h a) c
    counts_case (at.Joined n m) a c e k = same_case (λ a c. IsAccessCase s (letter.Counts i h a) c) k (case.is_counted e)
    counts_case _ a c e k = same_case (λ a c. IsAccessCase s (letter.Counts i h a) c) k (case.is_uncounted (λ n m j. absurd (cc)))

    tag_case : (b : Bool) (a : Result Tag TagError) (c : Change) → s.tag ≡ b → MakesTag i h b a c → IsAccessCase s (letter.MakeTag i h a) c
    tag_case true a c e k = same_case (λ a c. IsAccessCase s (letter.MakeTag i h a) c) k (case.tag_found e)
    tag_case false a c e k = either_case (λ a c. IsAccessCase s (letter.MakeTag i h a) c) k (case.tag_made e) (case.tag_starves e)

    lock_refused : (b : Bool) → nat_lt s.view.counter last_number ≡ b → s.view.row ≡ None → IsForbidden i h act.Lock s.view
        → IsAccessCase s (letter.Lock i h (Err Locking.Other)) nothing
    lock_refused true b e f = case.lock_forbidden e (grind (arith, nat_tests)) f
    lock_refused false b e f = case.lock_at_end e (grind (arith, nat_tests))

    locked : (o : Option ServiceView) (a : Result ℕ LockError) (c : Change) → s.view.row ≡ None → own_step i h act.Lock s.view ≡ o
        → IsAnswer Locking.OutOfMemory (or_refused Locking.Other s.view.counter o) a c → IsAccessCase s (letter.Lock i h a) c
    locked None a c e o k = same_case (λ a c. IsAccessCase s (letter.Lock i h a) c) k (lock_refused _ refl e (forbidden o))
    locked (Some y) a c e o k = either_case (λ a c. IsAccessCase s (letter.Lock i h a) c) k (case.lock_taken e (taken o)) (case.lock_starves e (taken o))

    lock_case : (r : Option Row) (a : Result ℕ LockError) (c : Change) → s.view.row ≡ r → IsAnswer Locking.OutOfMemory (lock_of i h s.view r) a c
        → IsAccessCase s (letter.Lock i h a) c
    lock_case None a c e k = locked _ a c e refl k
    lock_case (Some (row.Locked n)) a c e k = same_case (λ a c. IsAccessCase s (letter.Lock i h a) c) k (case.lock_held e)
    lock_case (Some (row.Published n b)) a c e k = same_case (λ a c. IsAccessCase s (letter.Lock i h a) c) k (case.lock_late e)

    removed_segment : (o : Option ServiceView) (a : Result (Unit {0}) RemoveError) (c : Change) → own_step i h act.RemoveSegment s.view ≡ o
        → IsSureAnswer (or_refused Removing.Other tt o) a c → IsAccessCase s (letter.RemoveSegment i h a) c
    removed_segment None a c o k = same_case (λ a c. IsAccessCase s (letter.RemoveSegment i h a) c) k (case.segment_kept (forbidden o))
    removed_segment (Some y) a c o k = same_case (λ a c. IsAccessCase s (letter.RemoveSegment i h a) c) k (case.segment_removed (taken o))

    removed_description : (o : Option ServiceView) (a : Result (Unit {0}) RemoveError) (c : Change) → own_step i h act.RemoveDescription s.view ≡ o
        → IsSureAnswer (or_refused Removing.Other tt o) a c → IsAccessCase s (letter.RemoveDescription i h a) c
    removed_description None a c o k = same_case (λ a c. IsAccessCase s (letter.RemoveDescription i h a) c) k (case.description_kept (forbidden o))
    removed_description (Some y) a c o k = same_case (λ a c. IsAccessCase s (letter.RemoveDescription i h a) c) k (case.description_removed (taken o))

    module _ (n m : ℕ) where
      abbrev made_by : Result (Unit {0}) MakeSegmentError → Change → Type 0
      made_by a c = IsAccessCase s (letter.MakeSegment i h n m a) c

      may_make : s.view.phase ≡ at.Locked n → 0 < m → s.view.segment ≡ None → (y : ServiceView) × Takes i h (act.Make m) s.view y
      may_make f some g =
          let y : ServiceView = record { phase = at.Made n; row = s.view.row; segment = Some (new_segment (Node i) n m); counter = s.view.counter } in (
            y,
            subst (λ x. IsStep (Node i) h (act.Make m) x s.view.row s.view.segment s.view.counter y) (sym f)
                (subst (λ x. IsStep (Node i) h (act.Make m) (at.Locked n) s.view.row x s.view.counter y) (sym g) (makes some)),
          )

      made : (o : Option ServiceView) (a : Result (Unit {0}) MakeSegmentError) (c : Change) → s.view.phase ≡ at.Locked n → 0 < m → s.view.segment ≡ None
          → own_step i h (act.Make m) s.view ≡ o → IsAnswer Making.OutOfMemory (or_refused Making.Other tt o) a c → made_by a c
      made None a c f some g o k = let t = may_make f some g in absurd (forbidden o t.0 t.1)
      made (Some y) a c f some g o k = either_case made_by k (case.make_made f some g (taken o)) (case.make_starves f some g (taken o))

      make_tested : (g : Option Segment) (a : Result (Unit {0}) MakeSegmentError) (c : Change) → s.view.phase ≡ at.Locked n → 0 < m → s.view.segment ≡ g
          → IsAnswer Making.OutOfMemory (make_of i h m s.view g) a c → made_by a c
      make_tested None a c f some g k = made _ a c f some g refl k
      make_tested (Some x) a c f some g k = same_case made_by k (case.make_again f some g)

      make_case : (l p : Bool) (a : Result (Unit {0}) MakeSegmentError) (c : Change) → has_lock n s.view.phase ≡ l → nat_lt 0 m ≡ p
          → IsAnswer Making.OutOfMemory (if l && p then make_of i h m s.view s.view.segment else Err Making.Other) a c → made_by a c
      make_case true true a c l p k = make_tested _ a c (lock_means _ n l) (grind (arith, nat_tests)) refl k
      make_case true false a c l p k = same_case made_by k (case.make_for_nobody (lock_means _ n l) (grind (arith, nat_tests)))
      make_case false p a c l e k = same_case made_by k (case.make_unlocked (λ f. true≢false (sym (locked_has _ n f) ∙ l)))

    module _ (n : ℕ) (d : Description) where
      abbrev published_by : Result ℕ PublishError → Change → Type 0
      published_by a c = IsAccessCase s (letter.Publish i h n d a) c

      publish_done : (y : ServiceView) (a : Result ℕ PublishError) (c : Change) → s.view.phase ≡ at.Made n → Takes i h (act.Publish d) s.view y → OnOk a (IsDescription d)
          → IsAnswer Publishing.OutOfMemory (publishing_of i h n s.tickets (Some y)) a c → published_by a c
      publish_done y a c f t limits (inl k) = same_case published_by k (case.publish_done (subst (λ r. OnOk r (IsDescription d)) k.0 limits) t f)
      publish_done y a c f t limits (inr k) = same_case published_by k (case.publish_starves t f)

      publish_case : (l : Bool) (o : Option ServiceView) (a : Result ℕ PublishError) (c : Change) → has_made n s.view.phase ≡ l → own_step i h (act.Publish d) s.view ≡ o
          → OnOk a (IsDescription d) → IsAnswer Publishing.OutOfMemory (if l then publishing_of i h n s.tickets o else Err Publishing.Other) a c → published_by a c
      publish_case true None a c l o limits k = same_case published_by k (case.publish_forbidden (forbidden o))
      publish_case false None a c l o limits k = same_case published_by k (case.publish_forbidden (forbidden o))
      publish_case true (Some y) a c l o limits k = publish_done y a c (made_means _ n l) (taken o) limits k
      publish_case false (Some y) a c l o limits k = same_case published_by k (case.publish_another (taken o) (λ f. true≢false (sym (made_has _ n f) ∙ l)))

    module _ (n : ℕ) where
      abbrev opened_by : Result ℕ OpenSegmentError → Change → Type 0
      opened_by a c = IsAccessCase s (letter.OpenSegment i h n a) c

      module _ (x : Segment) (there : IsUnmarked s.view.segment n x) where
        opened : (o : Option ServiceView) (a : Result ℕ OpenSegmentError) (c : Change) → MayJoin n x s.view.phase → s.view.counter < last_number
            → own_step i h act.Join s.view ≡ o → IsAnswer Opening.OutOfMemory (opening_of i h n s None o) a c → opened_by a c
        opened None a c place below o k = same_case opened_by k (case.open_forbidden there place below (forbidden o))
        opened (Some y) a c place below o k = either_case opened_by k (case.open_joined there place below (taken o)) (case.open_starves there place below (taken o))

        open_read : (q room t : Bool) (a : Result ℕ OpenSegmentError) (c : Change) (m : ℕ) → s.view.phase ≡ at.Read m → (m == n) ≡ q → has_room n x ≡ room
            → nat_lt s.view.counter last_number ≡ t
            → IsAnswer Opening.OutOfMemory (opening_of i h n s (need q Opening.Failed (need room Opening.Full (need t Opening.OutOfNumbers None))) (own_step i h act.Join s.view)) a c
            → opened_by a c
        open_read false room t a c m f q r e k = same_case opened_by k (case.open_unread there (λ g. let is : m ≡ n = cc in other_number m n q is) (λ j g. absurd (cc)))
        open_read true false t a c m f q r e k = same_case opened_by k (case.open_full there (f ∙ ap at.Read (same_number m n q)) (no_room n x r there.number there.unmarked))
        open_read true true false a c m f q r e k =
            same_case opened_by k (case.open_at_end there (inl (f ∙ ap at.Read (same_number m n q), room_left n x r)) (grind (arith, nat_tests)))
        open_read true true true a c m f q r e k = opened _ a c (inl (f ∙ ap at.Read (same_number m n q), room_left n x r)) (grind (arith, nat_tests)) refl k

        full_count : (k : ℕ) → s.view.phase ≡ at.Joined n k → last_number ≤ k → IsForbidden i h act.Join s.view
        full_count k f above y t = let less : k < last_number = joins_below t f in absurd (grind (arith, above, less))

        open_again : (q t l : Bool) (a : Result ℕ OpenSegmentError) (c : Change) (m k : ℕ) → s.view.phase ≡ at.Joined m k → (m == n) ≡ q
            → nat_lt s.view.counter last_number ≡ t → nat_lt k last_number ≡ l
            → IsAnswer Opening.OutOfMemory (opening_of i h n s (need q Opening.Failed (need t Opening.OutOfNumbers (need l Opening.Failed None))) (own_step i h act.Join s.view)) a c
            → opened_by a c
        open_again false t l a c m j f q e u k = same_case opened_by k (case.open_unread there (λ g. absurd (cc)) (λ o g. let is : m ≡ n = cc in other_number m n q is))
        open_again true false l a c m j f q e u k = same_case opened_by k (case.open_at_end there (inr (j, f ∙ ap (λ z. at.Joined z j) (same_number m n q))) (grind (arith, nat_tests)))
        open_again true true false a c m j f q e u k =
            let is : s.view.phase ≡ at.Joined n j = f ∙ ap (λ z. at.Joined z j) (same_number m n q) in
            same_case opened_by k (case.open_forbidden there (inr (j, is)) (grind (arith, nat_tests)) (full_count j is (grind (arith, nat_tests))))
        open_again true true true a c m j f q e u k = opened _ a c (inr (j, f ∙ ap (λ z. at.Joined z j) (same_number m n q))) (grind (arith, nat_tests)) refl k

        open_by : (f : Phase) (a : Result ℕ OpenSegmentError) (c : Change) → s.view.phase ≡ f
            → IsAnswer Opening.OutOfMemory (opening_of i h n s (join_refusal n x s.view.counter f) (own_step i h act.Join s.view)) a c → opened_by a c
        open_by (at.Read m) a c f k = open_read _ _ _ a c m f refl refl refl k
        open_by (at.Joined m j) a c f k = open_again _ _ _ a c m j f refl refl refl k
        open_by _ a c f k = same_case opened_by k (case.open_unread there (λ g. absurd (cc)) (λ j g. absurd (cc)))

      open_tested : (x : Segment) (q marked : Bool) (a : Result ℕ OpenSegmentError) (c : Change) → s.view.segment ≡ Some x → (x.number == n) ≡ q → x.marked ≡ marked
          → IsAnswer Opening.OutOfMemory (opening_of i h n s (need q Opening.Failed (if marked then Some Opening.Marked else join_refusal n x s.view.counter s.view.phase)) (own_step i h act.Join s.view)) a c
          → opened_by a c
      open_tested x false marked a c e q m k = same_case opened_by k (case.open_another e (other_number x.number n q))
      open_tested x true true a c e q m k = same_case opened_by k (case.open_marked e (same_number x.number n q) m)
      open_tested x true false a c e q m k = open_by x (record { there = e; number = same_number x.number n q; unmarked = m }) _ a c refl k

      open_case : (g : Option Segment) (a : Result ℕ OpenSegmentError) (c : Change) → s.view.segment ≡ g
          → IsAnswer Opening.OutOfMemory (opening_of i h n s (open_refusal n g s.view.counter s.view.phase) (own_step i h act.Join s.view)) a c → opened_by a c
      open_case None a c e k = same_case opened_by k (case.open_absent e)
      open_case (Some x) a c e k = open_tested x _ _ a c e refl refl k

    module _ (t n : ℕ) where
      abbrev released_by : Result Released ReleaseError → Change → Type 0
      released_by a c = IsAccessCase s (letter.Release t i h n a) c

      abbrev is_mine : Type 0
      is_mine = map.get s.tickets t ≡ Some (record { node = i; hash = h; number = n })

      released : (y : ServiceView) (a : Result Released ReleaseError) (c : Change) → is_mine → Takes i h act.Leave s.view y → LeavesBy y
          → IsSureAnswer (release_of i h t s.tickets (Some y)) a c → released_by a c
      released y a c mine st (counted e) k = same_case released_by (k.0 ∙ ap (λ f. Ok (release_answer f)) e, k.1) (case.release_counted mine st e)
      released y a c mine st (left e) k = same_case released_by (k.0 ∙ ap (λ f. Ok (release_answer f)) e, k.1) (case.release_left mine st e)
      released y a c mine st (last e) k = same_case released_by (k.0 ∙ ap (λ f. Ok (release_answer f)) e, k.1) (case.release_last mine st e)

      release_case : (b : Bool) (o : Option ServiceView) (a : Result Released ReleaseError) (c : Change) → is_ticket i h n (map.get s.tickets t) ≡ b → own_step i h act.Leave s.view ≡ o
          → IsSureAnswer (if b then release_of i h t s.tickets o else Err NoSuchTicket) a c → released_by a c
      release_case false o a c b e k = same_case released_by k (case.release_unknown (λ mine. true≢false (sym (ticket_is n _ mine) ∙ b)))
      release_case true None a c b o k = same_case released_by k (case.release_forbidden (is_ticket_means n _ b) (forbidden o))
      release_case true (Some y) a c b o k = let st : Takes i h act.Leave s.view y = taken o in released y a c (is_ticket_means n _ b) st (leaves_by st) k

-- What the tests come to is one of the cases.
pub access_case : (s : NodeView) (l : Letter) (c : Change) → IsNodeAnswer (acting_node l) (service_of l) s l c → IsAccessCase s l c
access_case s (letter.Exists h a) c k = exists_case 0 h s _ a c refl k
access_case s (letter.Fetch i h a) c k = fetch_case i h s _ a c refl k
access_case s (letter.Counts i h a) c k = counts_case i h s _ a c refl k
access_case s (letter.MakeTag i h a) c k = tag_case i h s _ a c refl k
access_case s (letter.RemoveTag i h a) c k = same_case (λ a c. IsAccessCase s (letter.RemoveTag i h a) c) k case.tag_removed
access_case s (letter.Lock i h a) c k = lock_case i h s _ a c refl k
access_case s (letter.MakeSegment i h n m a) c k = make_case i h s n m _ _ a c refl refl k
access_case s (letter.RemoveSegment i h a) c k = removed_segment i h s _ a c refl k
access_case s (letter.RemoveDescription i h a) c k = removed_description i h s _ a c refl k
access_case s (letter.Publish i h n d a) c k = publish_case i h s n d _ _ a c refl refl k.0 k.1
access_case s (letter.OpenSegment i h n a) c k = open_case i h s n _ a c refl k
access_case s (letter.Release t i h n a) c k = release_case i h s t n _ _ a c refl refl k

unread_refused : (n : ℕ) (x : Segment) (c : ℕ) (f : Phase) → f ≢ at.Read n → ((k : ℕ) → f ≢ at.Joined n k) → join_refusal n x c f ≡ Some Opening.Failed
unread_refused n x c (at.Read m) read joined =
    ap (λ (b : Bool). need b Opening.Failed (need (has_room n x) Opening.Full (number_refusal c None))) (not_true (m == n) (λ e. read (ap at.Read (same_number m n e))))
unread_refused n x c (at.Joined m k) read joined =
    ap (λ (b : Bool). need b Opening.Failed (number_refusal c (need (nat_lt k last_number) Opening.Failed None))) (not_true (m == n) (λ e. joined k (ap (λ z. at.Joined z k) (same_number m n e))))
unread_refused n x c _ read joined = refl

-- where an unmarked segment of the number is there, the phase decides
module _ (s : NodeView) (n : ℕ) (x : Segment) (there : IsUnmarked s.view.segment n x) where
  abbrev refusal : Option OpenSegmentError
  refusal = open_refusal n s.view.segment s.view.counter s.view.phase

  by_phase : refusal ≡ join_refusal n x s.view.counter s.view.phase
  by_phase =
      ap (λ g. open_refusal n g s.view.counter s.view.phase) there.there
      ∙ ap (λ (b : Bool). need b Opening.Failed (if x.marked then Some Opening.Marked else join_refusal n x s.view.counter s.view.phase)) (is_number x.number n there.number)
      ∙ ap (λ (b : Bool). if b then Some Opening.Marked else join_refusal n x s.view.counter s.view.phase) there.unmarked

  by_read : s.view.phase ≡ at.Read n → (b : Bool) → has_room n x ≡ b → refusal ≡ need b Opening.Full (number_refusal s.view.counter None)
  by_read f b room =
      by_phase ∙ ap (join_refusal n x s.view.counter) f
      ∙ ap (λ (q : Bool). need q Opening.Failed (need (has_room n x) Opening.Full (number_refusal s.view.counter None))) (is_number n n refl)
      ∙ ap (λ (q : Bool). need q Opening.Full (number_refusal s.view.counter None)) room

  by_joined : (k : ℕ) → s.view.phase ≡ at.Joined n k → refusal ≡ number_refusal s.view.counter (need (nat_lt k last_number) Opening.Failed None)
  by_joined k f =
      by_phase ∙ ap (join_refusal n x s.view.counter) f
      ∙ ap (λ (q : Bool). need q Opening.Failed (number_refusal s.view.counter (need (nat_lt k last_number) Opening.Failed None))) (is_number n n refl)

  has_place : set.len x.participants < x.capacity → has_room n x ≡ true
  has_place room = let number = there.number in let unmarked = there.unmarked in grind (arith, nat_tests, number, unmarked, room)

  has_none : x.capacity ≤ set.len x.participants → has_room n x ≡ false
  has_none full = not_true _ (λ e. absurd (grind (arith, full, room_left n x e)))

  ended : MayJoin n x s.view.phase → last_number ≤ s.view.counter → refusal ≡ Some Opening.OutOfNumbers
  ended (inl p) above =
      let over : nat_lt s.view.counter last_number ≡ false = grind (arith, nat_tests) in
      by_read p.0 true (has_place p.1) ∙ ap (λ (b : Bool). need b Opening.OutOfNumbers None) over
  ended (inr p) above =
      let over : nat_lt s.view.counter last_number ≡ false = grind (arith, nat_tests) in
      by_joined p.0 p.1 ∙ ap (λ (b : Bool). need b Opening.OutOfNumbers (need (nat_lt p.0 last_number) Opening.Failed None)) over

  -- the last test is the step's
  remains : MayJoin n x s.view.phase → s.view.counter < last_number → (b : Bool) × (refusal ≡ need b Opening.Failed None)
  remains (inl p) below =
      let under : nat_lt s.view.counter last_number ≡ true = grind (arith, nat_tests) in
      (true, by_read p.0 true (has_place p.1) ∙ ap (λ (b : Bool). need b Opening.OutOfNumbers None) under)
  remains (inr p) below =
      let under : nat_lt s.view.counter last_number ≡ true = grind (arith, nat_tests) in
      (nat_lt p.0 last_number, by_joined p.0 p.1 ∙ ap (λ (b : Bool). need b Opening.OutOfNumbers (need (nat_lt p.0 last_number) Opening.Failed None)) under)

  module _ (i : ℕ) (h : ServiceHash) where
    still_refused : (b : Bool) → refusal ≡ need b Opening.Failed None → own_step i h act.Join s.view ≡ None → open_answer i h s n ≡ Err Opening.Failed
    still_refused true e o = ap (λ z. opening_of i h n s z (own_step i h act.Join s.view)) e ∙ ap (opening_of i h n s None) o
    still_refused false e o = ap (λ z. opening_of i h n s z (own_step i h act.Join s.view)) e

    not_opened : MayJoin n x s.view.phase → s.view.counter < last_number → IsForbidden i h act.Join s.view → open_answer i h s n ≡ Err Opening.Failed
    not_opened place below f = let r = remains place below in still_refused r.0 r.1 (no_step i h f)

    passes : MayJoin n x s.view.phase → s.view.counter < last_number → {y : ServiceView} → Takes i h act.Join s.view y → refusal ≡ None
    passes (inl p) below t =
        let under : nat_lt s.view.counter last_number ≡ true = grind (arith, nat_tests) in
        by_read p.0 true (has_place p.1) ∙ ap (λ (b : Bool). need b Opening.OutOfNumbers None) under
    passes (inr p) below t =
        let under : nat_lt s.view.counter last_number ≡ true = grind (arith, nat_tests) in
        let less : p.0 < last_number = joins_below t p.1 in
        let more : nat_lt p.0 last_number ≡ true = grind (arith, nat_tests, less) in
        by_joined p.0 p.1 ∙ ap (λ (b : Bool). need b Opening.OutOfNumbers (need (nat_lt p.0 last_number) Opening.Failed None)) under
        ∙ ap (λ (b : Bool). need b Opening.Failed None) more

    is_opened : MayJoin n x s.view.phase → s.view.counter < last_number → {y : ServiceView} → Takes i h act.Join s.view y → open_answer i h s n ≡ opening_of i h n s None (Some y)
    is_opened place below t = ap (λ z. opening_of i h n s z (own_step i h act.Join s.view)) (passes place below t) ∙ ap (opening_of i h n s None) (allowed i h t)

no_number : (i : ℕ) (h : ServiceHash) (x : ServiceView) → last_number ≤ x.counter → IsForbidden i h act.Lock x
no_number i h x above y t = let below : x.counter < last_number = lock_below {c = x.counter} t in absurd (grind (arith, above, below))

if_same : {A : Type 0} {x : A} (b : Bool) → (if b then x else x) ≡ x
if_same true = refl
if_same false = refl

module _ (s : NodeView) (i : ℕ) (h : ServiceHash) where
  -- where the lock's test is known
  make_tests : (n m : ℕ) (l p : Bool) → has_lock n s.view.phase ≡ l → nat_lt 0 m ≡ p
      → make_answer i h s n m ≡ (if l && p then make_of i h m s.view s.view.segment else Err Making.Other)
  make_tests n m l p lock some =
      ap (λ (b : Bool). if b && nat_lt 0 m then make_of i h m s.view s.view.segment else Err Making.Other) lock
      ∙ ap (λ (b : Bool). if l && b then make_of i h m s.view s.view.segment else Err Making.Other) some

  makes_by : (n m : ℕ) (g : Option Segment) → s.view.phase ≡ at.Locked n → 0 < m → s.view.segment ≡ g → make_answer i h s n m ≡ make_of i h m s.view g
  makes_by n m g f some is =
      let p : nat_lt 0 m ≡ true = grind (arith, nat_tests) in
      make_tests n m true true (locked_has _ n f) p ∙ ap (make_of i h m s.view) is

  publish_tests : (n : ℕ) (d : Description) (l : Bool) (o : Option ServiceView) → has_made n s.view.phase ≡ l → own_step i h (act.Publish d) s.view ≡ o
      → publish_answer i h s n d ≡ (if l then publishing_of i h n s.tickets o else Err Publishing.Other)
  publish_tests n d l o lock step =
      ap (λ (b : Bool). if b then publishing_of i h n s.tickets (own_step i h (act.Publish d) s.view) else Err Publishing.Other) lock
      ∙ ap (λ z. if l then publishing_of i h n s.tickets z else Err Publishing.Other) step

  release_tests : (t n : ℕ) (b : Bool) (o : Option ServiceView) → is_ticket i h n (map.get s.tickets t) ≡ b → own_step i h act.Leave s.view ≡ o
      → release_with i h s t n ≡ (if b then release_of i h t s.tickets o else Err NoSuchTicket)
  release_tests t n b o mine step =
      ap (λ (z : Bool). if z then release_of i h t s.tickets (own_step i h act.Leave s.view) else Err NoSuchTicket) mine
      ∙ ap (λ z. if b then release_of i h t s.tickets z else Err NoSuchTicket) step

  open_another_is : (n : ℕ) (x : Segment) → s.view.segment ≡ Some x → x.number ≢ n → open_answer i h s n ≡ Err Opening.Failed
  open_another_is n x e other = ap (λ z. opening_of i h n s z (own_step i h act.Join s.view))
      (ap (λ g. open_refusal n g s.view.counter s.view.phase) e
      ∙ ap (λ (b : Bool). need b Opening.Failed (if x.marked then Some Opening.Marked else join_refusal n x s.view.counter s.view.phase)) (not_true _ (λ q. other (same_number x.number n q))))

  open_marked_is : (n : ℕ) (x : Segment) → s.view.segment ≡ Some x → x.number ≡ n → x.marked ≡ true → open_answer i h s n ≡ Err Opening.Marked
  open_marked_is n x e number marked = ap (λ z. opening_of i h n s z (own_step i h act.Join s.view))
      (ap (λ g. open_refusal n g s.view.counter s.view.phase) e
      ∙ ap (λ (b : Bool). need b Opening.Failed (if x.marked then Some Opening.Marked else join_refusal n x s.view.counter s.view.phase)) (is_number x.number n number)
      ∙ ap (λ (b : Bool). if b then Some Opening.Marked else join_refusal n x s.view.counter s.view.phase) marked)

  refused_opening : (n : ℕ) {e : OpenSegmentError} → open_refusal n s.view.segment s.view.counter s.view.phase ≡ Some e → open_answer i h s n ≡ Err e
  refused_opening n is = ap (λ z. opening_of i h n s z (own_step i h act.Join s.view)) is

-- And the tests come to each of them.
pub case_answer : {s : NodeView} {l : Letter} {c : Change} → IsAccessCase s l c → IsNodeAnswer (acting_node l) (service_of l) s l c
case_answer (case.is_absent e) = (sym (ap existence e), refl)
case_answer (case.is_being_set_up e) = (sym (ap existence e), refl)
case_answer (case.is_there e) = (sym (ap existence e), refl)
case_answer {s = s} (case.fetch_absent {i = i} {h = h} e) = refused Fetching.OutOfMemory (ap (fetch_of i h s.view) e)
case_answer {s = s} (case.fetch_locked {i = i} {h = h} e) = refused Fetching.OutOfMemory (ap (fetch_of i h s.view) e)
case_answer {s = s} (case.fetch_starves {i = i} {h = h} e) = starved Fetching.OutOfMemory (ap (fetch_of i h s.view) e)
case_answer {s = s} (case.fetch_reads {i = i} {h = h} {n = n} {b = b} e free t) =
    answered Fetching.OutOfMemory (ap (fetch_of i h s.view) e ∙ ap (λ o. Ok ((n, b), read_change o)) (allowed i h t))
case_answer {s = s} (case.fetch_sees {i = i} {h = h} {n = n} {b = b} e bound) =
    answered Fetching.OutOfMemory (ap (fetch_of i h s.view) e ∙ ap (λ o. Ok ((n, b), read_change o)) (no_step i h (λ y t. true≢false (sym (read_begins t) ∙ bound))))
case_answer (case.is_counted e) = (sym (ap is_joined e), refl)
case_answer {s = s} (case.is_uncounted other) = (sym (not_joined s.view.phase other), refl)
case_answer (case.tag_found {i = i} {h = h} e) = subst (λ b. MakesTag i h b (Ok Found) nothing) (sym e) (refl, refl)
case_answer (case.tag_starves {i = i} {h = h} e) = subst (λ b. MakesTag i h b (Err Tagging.OutOfMemory) nothing) (sym e) (inr (refl, refl))
case_answer (case.tag_made {i = i} {h = h} e) = subst (λ b. MakesTag i h b (Ok Made) (tag_becomes true)) (sym e) (inl (refl, refl))
case_answer case.tag_removed = (refl, refl)
case_answer {s = s} (case.lock_held {i = i} {h = h} e) = refused Locking.OutOfMemory (ap (lock_of i h s.view) e)
case_answer {s = s} (case.lock_late {i = i} {h = h} e) = refused Locking.OutOfMemory (ap (lock_of i h s.view) e)
case_answer {s = s} (case.lock_at_end {i = i} {h = h} e above) =
    refused Locking.OutOfMemory (ap (lock_of i h s.view) e ∙ ap (or_refused Locking.Other s.view.counter) (no_step i h (no_number i h s.view above)))
case_answer {s = s} (case.lock_forbidden {i = i} {h = h} e below f) =
    refused Locking.OutOfMemory (ap (lock_of i h s.view) e ∙ ap (or_refused Locking.Other s.view.counter) (no_step i h f))
case_answer {s = s} (case.lock_starves {i = i} {h = h} e t) =
    starved Locking.OutOfMemory (ap (lock_of i h s.view) e ∙ ap (or_refused Locking.Other s.view.counter) (allowed i h t))
case_answer {s = s} (case.lock_taken {i = i} {h = h} e t) =
    answered Locking.OutOfMemory (ap (lock_of i h s.view) e ∙ ap (or_refused Locking.Other s.view.counter) (allowed i h t))
case_answer {s = s} (case.make_unlocked {i = i} {h = h} {n = n} {m = m} other) =
    refused Making.OutOfMemory (make_tests s i h n m false _ (not_true _ (λ e. other (lock_means _ n e))) refl)
case_answer {s = s} (case.make_for_nobody {i = i} {h = h} {n = n} {m = m} f none) =
    let p : nat_lt 0 m ≡ false = grind (arith, nat_tests) in
    refused Making.OutOfMemory (make_tests s i h n m true false (locked_has _ n f) p)
case_answer {s = s} (case.make_again {i = i} {h = h} {n = n} {m = m} f some g) = refused Making.OutOfMemory (makes_by s i h n m _ f some g)
case_answer {s = s} (case.make_starves {i = i} {h = h} {n = n} {m = m} f some g t) =
    starved Making.OutOfMemory (makes_by s i h n m _ f some g ∙ ap (or_refused Making.Other tt) (allowed i h t))
case_answer {s = s} (case.make_made {i = i} {h = h} {n = n} {m = m} f some g t) =
    answered Making.OutOfMemory (makes_by s i h n m _ f some g ∙ ap (or_refused Making.Other tt) (allowed i h t))
case_answer (case.segment_kept {i = i} {h = h} f) = surely_refused (ap (or_refused Removing.Other tt) (no_step i h f))
case_answer (case.segment_removed {i = i} {h = h} t) = surely_answered (ap (or_refused Removing.Other tt) (allowed i h t))
case_answer (case.description_kept {i = i} {h = h} f) = surely_refused (ap (or_refused Removing.Other tt) (no_step i h f))
case_answer (case.description_removed {i = i} {h = h} t) = surely_answered (ap (or_refused Removing.Other tt) (allowed i h t))
case_answer {s = s} (case.publish_forbidden {i = i} {h = h} {n = n} {d = d} f) =
    (tt, refused Publishing.OutOfMemory (publish_tests s i h n d _ None refl (no_step i h f) ∙ if_same (has_made n s.view.phase)))
case_answer {s = s} (case.publish_another {i = i} {h = h} {n = n} {d = d} t other) =
    (tt, refused Publishing.OutOfMemory (publish_tests s i h n d false _ (not_true _ (λ e. other (made_means _ n e))) refl))
case_answer {s = s} (case.publish_starves {i = i} {h = h} {n = n} {d = d} t f) =
    (tt, starved Publishing.OutOfMemory (publish_tests s i h n d true _ (made_has _ n f) (allowed i h t)))
case_answer {s = s} (case.publish_done {i = i} {h = h} {n = n} {d = d} limits t f) =
    (limits, answered Publishing.OutOfMemory (publish_tests s i h n d true _ (made_has _ n f) (allowed i h t)))
case_answer {s = s} (case.open_absent {i = i} {h = h} {n = n} e) =
    refused Opening.OutOfMemory (refused_opening s i h n (ap (λ g. open_refusal n g s.view.counter s.view.phase) e))
case_answer {s = s} (case.open_another {i = i} {h = h} {n = n} {x = x} e other) = refused Opening.OutOfMemory (open_another_is s i h n x e other)
case_answer {s = s} (case.open_marked {i = i} {h = h} {n = n} {x = x} e number marked) = refused Opening.OutOfMemory (open_marked_is s i h n x e number marked)
case_answer {s = s} (case.open_unread {i = i} {h = h} {n = n} {x = x} there read joined) =
    refused Opening.OutOfMemory (refused_opening s i h n (by_phase s n x there ∙ unread_refused n x s.view.counter s.view.phase read joined))
case_answer {s = s} (case.open_full {i = i} {h = h} {n = n} {x = x} there f full) =
    refused Opening.OutOfMemory (refused_opening s i h n (by_read s n x there f false (has_none s n x there full)))
case_answer {s = s} (case.open_at_end {i = i} {h = h} {n = n} {x = x} there place above) = refused Opening.OutOfMemory (refused_opening s i h n (ended s n x there place above))
case_answer {s = s} (case.open_forbidden {i = i} {h = h} {n = n} {x = x} there place below f) = refused Opening.OutOfMemory (not_opened s n x there i h place below f)
case_answer {s = s} (case.open_starves {i = i} {h = h} {n = n} {x = x} there place below t) = starved Opening.OutOfMemory (is_opened s n x there i h place below t)
case_answer {s = s} (case.open_joined {i = i} {h = h} {n = n} {x = x} there place below t) = answered Opening.OutOfMemory (is_opened s n x there i h place below t)
case_answer {s = s} (case.release_unknown {t = t} {i = i} {h = h} {n = n} other) =
    surely_refused (release_tests s i h t n false _ (not_true _ (λ e. other (is_ticket_means i h n _ e))) refl)
case_answer {s = s} (case.release_forbidden {t = t} {i = i} {h = h} {n = n} mine f) = surely_refused (release_tests s i h t n true _ (ticket_is i h n _ mine) (no_step i h f))
case_answer {s = s} (case.release_counted {t = t} {i = i} {h = h} {n = n} {y = y} mine st e) =
    surely_answered (release_tests s i h t n true _ (ticket_is i h n _ mine) (allowed i h st) ∙ ap (λ f. Ok (release_answer f, view_becomes_with y (map.remove s.tickets t))) e)
case_answer {s = s} (case.release_left {t = t} {i = i} {h = h} {n = n} {y = y} mine st e) =
    surely_answered (release_tests s i h t n true _ (ticket_is i h n _ mine) (allowed i h st) ∙ ap (λ f. Ok (release_answer f, view_becomes_with y (map.remove s.tickets t))) e)
case_answer {s = s} (case.release_last {t = t} {i = i} {h = h} {n = n} {y = y} mine st e) =
    surely_answered (release_tests s i h t n true _ (ticket_is i h n _ mine) (allowed i h st) ∙ ap (λ f. Ok (release_answer f, view_becomes_with y (map.remove s.tickets t))) e)
