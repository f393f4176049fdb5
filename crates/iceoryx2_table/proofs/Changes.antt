-- What each step of a participant makes of the services' state, from what was tested and from the maps that it wrote.
use Rattle.std.proofs.Common.{◌≡◌, ℕ, ◌+◌, ◌-◌, ◌<◌, Bool, true, false, Option, Some, None, inl, inr, arith, refl, sym, ap, subst, ◌∙◌}
use Rattle.std.specs.Prelude.{Result, Ok, Err, is_ok, is_some, nat_lt, ◌==◌, if◌then◌else◌}
use Rattle.std.specs.FinMap as map
use Rattle.std.specs.Option.{option_map}
use Rattle.std.specs.declared.alloc.AllocError.{AllocError}
use Rattle.std.proofs.lemmas.Bool.Decides.{nat_tests}
use Rattle.iceoryx2_description.specs.declared.description.ServiceHash.{ServiceHash}
use Rattle.iceoryx2_description.specs.Description.{Description}
use Rattle.iceoryx2_access.specs.declared.storage.Release.TheVariants as Leaving
use Rattle.iceoryx2_world.specs.declared.world.Participant.{Participant}
use Rattle.iceoryx2_world.specs.declared.world.Phase.{Phase}
use Rattle.iceoryx2_world.specs.declared.world.Phase.TheVariants as at
use Rattle.iceoryx2_world.specs.declared.world.Row.{Row}
use Rattle.iceoryx2_world.specs.declared.world.Row.TheVariants as row
use Rattle.iceoryx2_world.specs.Orders.{hash_cmp, hash_total, hash_exact, place_cmp}
use Rattle.iceoryx2_world.specs.World.{Segment, begins, or_idle, set_to, unless_idle}
use Rattle.iceoryx2_world.specs.Acts.{Act}
use Rattle.iceoryx2_world.specs.Acts as act
use Rattle.iceoryx2_world.specs.Batches.{needs_room}
use Rattle.iceoryx2_world.specs.Steps.{ServiceView, view_after, to_view, last_number, has_room, has_others, leave_of, new_segment, row_for, with_one, without_one, without_any}
use Rattle.finite_map.specs.Places.{place_in}
use Rattle.finite_map.proofs.Maps.{insert_same}
use Rattle.iceoryx2_table.specs.declared.services.Position.{Position}
use Rattle.iceoryx2_table.specs.ServicesState.{ServicesState, Admits, Dismisses, StepsTo, StepsOrStays, Starves, TakesDescription, TakesLeave, TakesSegment, position_in, published_number, segment_fits, step_at}
use Rattle.iceoryx2_table.specs.Recorded.{RecordsAdmission, RecordsStep}
use Rattle.iceoryx2_table.proofs.Views.{kept, none_of, there_by_place}
use Rattle.iceoryx2_table.proofs.ServiceViews.{by_phase, by_both, did, refused, starved, left, fitting, lock_tried, publish_tried, published_row, read_tried}

abbrev Rows : Type 0
Rows = map.FinMap hash_cmp Row

abbrev Segments : Type 0
Segments = map.FinMap hash_cmp Segment

abbrev Phases : Type 0
Phases = map.FinMap place_cmp Phase

-- In each section a is the state as it is read in the fields, and b is its value.

-- whether there is a segment, by its place
pub segment_there : {a b : ServicesState} (h : ServiceHash) → a ≡ b → {place : Result ℕ ℕ} → place ≡ place_in b.segments h → {y : Bool} → is_ok place ≡ y → is_some (map.get a.segments h) ≡ y
segment_there {b = b} h is e test = ap (λ (x : ServicesState). is_some (map.get x.segments h)) is ∙ there_by_place b.segments h e test

-- who holds nothing locks what is absent, while a number is left
module _ {a b : ServicesState} (p : Participant) (h : ServiceHash) (is : a ≡ b) {q : Position} (found : q ≡ position_in a.phases (p, h)) (free : begins q.phase ≡ true) (absent : map.get b.rows h ≡ None) (more : a.counter < last_number) where
  lock_tries : step_at a p h act.Lock ≡ to_view (at.Locked a.counter) (Some (row.Locked a.counter)) (map.get a.segments h) (a.counter + 1)
  lock_tries = lock_tried a p h q.phase (sym (ap (λ (x : Position). x.phase) found)) free (ap (λ (x : ServicesState). map.get x.rows h) is ∙ absent) (grind (arith, nat_tests, more))

  pub lock_starves : {r : Rows} {f : Phases} → r ≡ a.rows → f ≡ a.phases → Starves b p h act.Lock (record a { rows = r; phases = f })
  lock_starves rows phases = starved p h act.Lock _ is lock_tries refl (λ i. record a { rows = rows i; phases = phases i })

  pub locks : {r s : Rows} {f g : Phases} → s ≡ map.insert r h (row.Locked a.counter) → r ≡ a.rows → g ≡ map.insert f (p, h) (at.Locked a.counter) → f ≡ a.phases → StepsTo b p h act.Lock (record a { rows = s; phases = g; counter = a.counter + 1 })
  locks wrote same phase still = did p h act.Lock _ is lock_tries
      (λ i. record {
        rows = (wrote ∙ ap (λ m. map.insert m h (row.Locked a.counter)) same) i;
        segments = kept hash_total hash_exact a.segments h i;
        phases = (phase ∙ ap (λ m. map.insert m (p, h) (at.Locked a.counter)) still) i;
        counter = a.counter + 1;
      })

-- who holds nothing reads what is published
module _ {a b : ServicesState} (p : Participant) (h : ServiceHash) (is : a ≡ b) {q : Position} (found : q ≡ position_in a.phases (p, h)) (free : begins q.phase ≡ true) (n : ℕ) (there : published_number (map.get b.rows h) ≡ Some n) where
  read_tries : step_at a p h act.Read ≡ to_view (at.Read n) (map.get a.rows h) (map.get a.segments h) a.counter
  read_tries =
      let written = published_row (map.get a.rows h) n (ap (λ (x : ServicesState). published_number (map.get x.rows h)) is ∙ there) in
      read_tried a p h q.phase n written.0 (sym (ap (λ (x : Position). x.phase) found)) free written.1

  pub read_starves : {f : Phases} → map.get a.phases (p, h) ≡ None → f ≡ a.phases → Starves b p h act.Read (record a { phases = f })
  read_starves absent same = starved p h act.Read _ is read_tries (ap (λ (o : Option Phase). needs_room act.Read (or_idle o)) absent) (λ i. record a { phases = same i })

  pub reads : {f g : Phases} → g ≡ map.insert f (p, h) (at.Read n) → f ≡ a.phases → StepsTo b p h act.Read (record a { phases = g })
  reads phase same = did p h act.Read _ is read_tries
      (λ i. record {
        rows = kept hash_total hash_exact a.rows h i;
        segments = kept hash_total hash_exact a.segments h i;
        phases = (phase ∙ ap (λ m. map.insert m (p, h) (at.Read n)) same) i;
        counter = a.counter;
      })

-- who holds the lock makes no segment where there is one
pub no_make : (b : ServicesState) (p : Participant) (h : ServiceHash) (m n : ℕ) {q : Position} → q ≡ position_in b.phases (p, h) → q.phase ≡ at.Locked n → is_some (map.get b.segments h) ≡ true → step_at b p h (act.Make m) ≡ None
no_make b p h m n found locked there = by (map.get b.segments h) refl there
  where
    by : (o : Option Segment) → map.get b.segments h ≡ o → is_some o ≡ true → step_at b p h (act.Make m) ≡ None
    by (Some s) e t = by_both b p h (act.Make m) (at.Locked n) (Some s) (sym (ap (λ (x : Position). x.phase) found) ∙ locked) e
    by None e t = absurd (cc)

-- who holds the lock makes a segment where there is none, for at least one node
module _ {a b : ServicesState} (p : Participant) (h : ServiceHash) (m n : ℕ) (is : a ≡ b) {q : Position} (found : q ≡ position_in b.phases (p, h)) (locked : q.phase ≡ at.Locked n) (absent : is_some (map.get a.segments h) ≡ false) (some : 0 < m) where
  make_tries : step_at a p h (act.Make m) ≡ to_view (at.Made n) (map.get a.rows h) (Some (new_segment p n m)) a.counter
  make_tries =
      let some_node : nat_lt 0 m ≡ true = grind (arith, nat_tests, some) in
      by_both a p h (act.Make m) (at.Locked n) None (ap (λ (x : ServicesState). or_idle (map.get x.phases (p, h))) is ∙ sym (ap (λ (x : Position). x.phase) found) ∙ locked) (none_of _ absent)
      ∙ ap (λ (y : Bool). if y then to_view (at.Made n) (map.get a.rows h) (Some (new_segment p n m)) a.counter else None) some_node

  pub make_starves : Starves b p h (act.Make m) b
  make_starves = starved p h (act.Make m) _ is make_tries refl (sym is)

  pub make_starves_room : {s : Segments} → s ≡ a.segments → Starves b p h (act.Make m) (record a { segments = s })
  make_starves_room same = starved p h (act.Make m) _ is make_tries refl (λ i. record a { segments = same i })

  pub makes : {s t : Segments} {x : Segment} {f : Phases} → t ≡ map.insert s h x → s ≡ a.segments → x ≡ new_segment p n m → f ≡ set_to a.phases (p, h) (Some (at.Made n)) → StepsTo b p h (act.Make m) (record a { segments = t; phases = f })
  makes {s} {t} {x} segment same new phase = did p h (act.Make m) _ is make_tries
      (λ i. record {
        rows = kept hash_total hash_exact a.rows h i;
        segments = (segment ∙ ap (λ y. map.insert y h x) same ∙ ap (map.insert a.segments h) new) i;
        phases = phase i;
        counter = a.counter;
      })

-- who made a segment publishes what fits it
module _ {a b : ServicesState} (p : Participant) (h : ServiceHash) (d : Description) (n : ℕ) (is : a ≡ b) {q : Position} (found : q ≡ position_in b.phases (p, h)) (made : q.phase ≡ at.Made n) (fits : segment_fits h (map.get b.segments h) d ≡ true) where
  publish_tries : step_at a p h (act.Publish d) ≡ to_view (at.Joined n 1) (Some (row_for n d)) (map.get a.segments h) a.counter
  publish_tries =
      let fit = fitting h (map.get a.segments h) d (ap (λ (x : ServicesState). segment_fits h (map.get x.segments h) d) is ∙ fits) in
      publish_tried a p h d n fit.0 (ap (λ (x : ServicesState). or_idle (map.get x.phases (p, h))) is ∙ sym (ap (λ (x : Position). x.phase) found) ∙ made) fit.1 fit.2

  pub publish_starves : Starves b p h (act.Publish d) b
  publish_starves = starved p h (act.Publish d) _ is publish_tries refl (sym is)

  pub publish_starves_room : {r : Rows} → r ≡ a.rows → Starves b p h (act.Publish d) (record a { rows = r })
  publish_starves_room same = starved p h (act.Publish d) _ is publish_tries refl (λ i. record a { rows = same i })

  pub publishes : {r s : Rows} {x : Row} {f : Phases} → s ≡ map.insert r h x → r ≡ a.rows → x ≡ row_for n d → f ≡ set_to a.phases (p, h) (Some (at.Joined n 1)) → StepsTo b p h (act.Publish d) (record a { rows = s; phases = f })
  publishes {r} {s} {x} wrote same new phase = did p h (act.Publish d) _ is publish_tries
      (λ i. record {
        rows = (wrote ∙ ap (λ y. map.insert y h x) same ∙ ap (map.insert a.rows h) new) i;
        segments = kept hash_total hash_exact a.segments h i;
        phases = phase i;
        counter = a.counter;
      })

-- who has joined joins once more, while the count has room
module _ {a b : ServicesState} (p : Participant) (h : ServiceHash) (is : a ≡ b) {q : Position} (found : q ≡ position_in b.phases (p, h)) where
  phase_is : {x : Phase} → q.phase ≡ x → or_idle (map.get a.phases (p, h)) ≡ x
  phase_is e = ap (λ (x : ServicesState). or_idle (map.get x.phases (p, h))) is ∙ sym (ap (λ (x : Position). x.phase) found) ∙ e

  pub joins_again : {n k : ℕ} {f : Phases} → q.phase ≡ at.Joined n k → k < last_number → f ≡ set_to a.phases (p, h) (Some (at.Joined n (k + 1))) → StepsTo b p h act.Join (record a { phases = f })
  joins_again {n} {k} joined more phase =
      let few : nat_lt k last_number ≡ true = grind (arith, nat_tests, more) in
      did p h act.Join (record { phase = at.Joined n (k + 1); row = _; segment = _; counter = _ }) is
      (by_phase a p h act.Join (at.Joined n k) (phase_is joined) ∙ ap (λ (y : Bool). if y then to_view (at.Joined n (k + 1)) (map.get a.rows h) (map.get a.segments h) a.counter else None) few)
      (λ i. record {
        rows = kept hash_total hash_exact a.rows h i;
        segments = kept hash_total hash_exact a.segments h i;
        phases = phase i;
        counter = a.counter;
      })

  pub joins_nothing : {n : ℕ} → q.phase ≡ at.Read n → map.get a.segments h ≡ None → StepsOrStays b p h act.Join false a
  joins_nothing {n} read none = refused p h act.Join is (by_both a p h act.Join (at.Read n) None (phase_is read) none) refl

-- who has read joins where the segment takes it: t is what becomes of the segment s
module _ {a b : ServicesState} (p : Participant) (h : ServiceHash) (is : a ≡ b) {q : Position} (found : q ≡ position_in b.phases (p, h)) {n : ℕ} (read : q.phase ≡ at.Read n) (s t : Segment) (there : map.get a.segments h ≡ Some s) {g : Segments} (segment : g ≡ map.insert a.segments h t) where
  join_tries : (y : Bool) → has_room n s ≡ y → step_at a p h act.Join ≡ (if y then to_view (at.Joined n 1) (map.get a.rows h) (Some (with_one p s)) a.counter else None)
  join_tries y room = by_both a p h act.Join (at.Read n) (Some s) (phase_is p h is found read) there
      ∙ ap (λ (x : Bool). if x then to_view (at.Joined n 1) (map.get a.rows h) (Some (with_one p s)) a.counter else None) room

  as_before : t ≡ s → record a { segments = g } ≡ a
  as_before same = λ i. record a { segments = (segment ∙ ap (map.insert a.segments h) same ∙ insert_same hash_total hash_exact a.segments h s there) i }

  pub joins : {f : Phases} → Admits n p s (Ok true) t → f ≡ set_to a.phases (p, h) (Some (at.Joined n 1)) → StepsTo b p h act.Join (record a { segments = g; phases = f })
  joins ad phase =
      did p h act.Join (record { phase = at.Joined n 1; row = _; segment = Some (with_one p s); counter = _ }) is (join_tries true ad.0)
      (λ i. record {
        rows = kept hash_total hash_exact a.rows h i;
        segments = (segment ∙ ap (map.insert a.segments h) ad.1) i;
        phases = phase i;
        counter = a.counter;
      })

  pub join_refused : Admits n p s (Ok false) t → StepsOrStays b p h act.Join false (record a { segments = g })
  join_refused ad = refused p h act.Join is (join_tries false ad.0) (as_before ad.1)

  pub join_starves : (e : AllocError) → Admits n p s (Err e) t → Starves b p h act.Join (record a { segments = g })
  join_starves e ad = starved p h act.Join _ is (join_tries true ad.0) (ap (needs_room act.Join) (phase_is p h is found read)) (as_before ad.1)

  -- the same, with what writes it down
  module _ {R : Type 0} (wrote declines : R → R → Type 0) (before after : R) {admitted : Bool} where
    pub join_recorded : {f : Phases} → admitted ≡ true → RecordsAdmission wrote declines n p s (Ok admitted) t before after → f ≡ set_to a.phases (p, h) (Some (at.Joined n 1)) → RecordsStep wrote declines b p h act.Join true (record a { segments = g; phases = f }) before after
    join_recorded told admits phase =
        let ad = subst (λ (y : Bool). RecordsAdmission wrote declines n p s (Ok y) t before after) told admits in
        (joins ad.0 phase, ad.1)

    pub join_unrecorded : admitted ≡ false → RecordsAdmission wrote declines n p s (Ok admitted) t before after → RecordsStep wrote declines b p h act.Join false (record a { segments = g }) before after
    join_unrecorded told admits = by (subst (λ (y : Bool). RecordsAdmission wrote declines n p s (Ok y) t before after) told admits)
      where
        by : RecordsAdmission wrote declines n p s (Ok false) t before after → RecordsStep wrote declines b p h act.Join false (record a { segments = g }) before after
        by (inl x) = inl (join_refused x.0, x.1)
        by (inr x) = inr (as_before x.0 ∙ is, x.1)

-- who has joined leaves
module _ {a b : ServicesState} (p : Participant) (h : ServiceHash) (is : a ≡ b) {q : Position} (found : q ≡ position_in a.phases (p, h)) {n k : ℕ} (joined : q.phase ≡ at.Joined n k) where
  -- what a leave comes to, by the two tests of the count
  abbrev counted : Option Segment → Bool → Bool → Option ServiceView
  counted s more one = if more then to_view (at.Joined n (k - 1)) (map.get a.rows h) s a.counter else if one then leave_of p n (map.get a.rows h) s a.counter else None

  leave_tries : (s : Option Segment) → map.get a.segments h ≡ s → (more one : Bool) → nat_lt 1 k ≡ more → (k == 1) ≡ one → step_at a p h act.Leave ≡ counted s more one
  leave_tries s there more one e f =
      by_both a p h act.Leave (at.Joined n k) s (sym (ap (λ (x : Position). x.phase) found) ∙ joined) there
      ∙ (λ i. counted s (e i) (f i))

  pub leaves_one : {f : Phases} → 1 < k → f ≡ set_to a.phases (p, h) (Some (at.Joined n (k - 1))) → TakesLeave b p h (Some Leaving.StillCounted) (record a { phases = f })
  leaves_one more phase =
      let many : nat_lt 1 k ≡ true = grind (arith, nat_tests, more) in
      left p h _ (record { phase = at.Joined n (k - 1); row = _; segment = _; counter = _ }) is (leave_tries _ refl true _ many refl) refl
      (λ i. record {
        rows = kept hash_total hash_exact a.rows h i;
        segments = kept hash_total hash_exact a.segments h i;
        phases = phase i;
        counter = a.counter;
      })

  pub leaves_none : k ≡ 0 → step_at b p h act.Leave ≡ None
  leaves_none zero =
      let few : nat_lt 1 k ≡ false = grind (arith, nat_tests, zero) in
      let none : (k == 1) ≡ false = grind (arith, nat_tests, zero) in
      ap (λ (x : ServicesState). step_at x p h act.Leave) (sym is) ∙ leave_tries _ refl false false few none

  last_tries : k ≡ 1 → (s : Option Segment) → map.get a.segments h ≡ s → step_at a p h act.Leave ≡ leave_of p n (map.get a.rows h) s a.counter
  last_tries one s there =
      let few : nat_lt 1 k ≡ false = grind (arith, nat_tests, one) in
      let last : (k == 1) ≡ true = grind (arith, nat_tests, one) in
      leave_tries s there false true few last

  pub leaves_nothing : k ≡ 1 → map.get a.segments h ≡ None → (step_at b p h act.Leave ≡ None) × (a ≡ b)
  leaves_nothing one none = refused p h act.Leave is (last_tries one None none) refl

-- who has joined once leaves: t is what becomes of the segment s
module _ {a b : ServicesState} (p : Participant) (h : ServiceHash) (is : a ≡ b) {q : Position} (found : q ≡ position_in a.phases (p, h)) {n k : ℕ} (joined : q.phase ≡ at.Joined n k) (one : k ≡ 1) (s t : Segment) (there : map.get a.segments h ≡ Some s) {g : Segments} (segment : g ≡ map.insert a.segments h t) where
  leave_comes : (y : Bool) → has_others s ≡ y → step_at a p h act.Leave ≡ (if y then to_view at.Idle (map.get a.rows h) (Some (without_one p s)) a.counter else to_view (at.Leaving n) (map.get a.rows h) (Some (without_any s)) a.counter)
  leave_comes y others = last_tries p h is found joined one (Some s) there
      ∙ ap (λ (x : Bool). if x then to_view at.Idle (map.get a.rows h) (Some (without_one p s)) a.counter else to_view (at.Leaving n) (map.get a.rows h) (Some (without_any s)) a.counter) others

  pub leaves : {stays : Bool} {f : Phases} → Dismisses p s stays t → stays ≡ true → f ≡ set_to a.phases (p, h) None → TakesLeave b p h (Some Leaving.Left) (record a { segments = g; phases = f })
  leaves gone told phase =
      let d = subst (λ (x : Bool). Dismisses p s x t) told gone in
      left p h _ (record { phase = at.Idle; row = _; segment = Some (without_one p s); counter = _ }) is (leave_comes true d.0) refl
      (λ i. record { rows = kept hash_total hash_exact a.rows h i; segments = (segment ∙ ap (map.insert a.segments h) d.1) i; phases = phase i; counter = a.counter })

  pub leaves_last : {stays : Bool} {f : Phases} → Dismisses p s stays t → stays ≡ false → f ≡ set_to a.phases (p, h) (Some (at.Leaving n)) → TakesLeave b p h (Some Leaving.Last) (record a { segments = g; phases = f })
  leaves_last gone told phase =
      let d = subst (λ (x : Bool). Dismisses p s x t) told gone in
      left p h _ (record { phase = at.Leaving n; row = _; segment = Some (without_any s); counter = _ }) is (leave_comes false d.0) refl
      (λ i. record { rows = kept hash_total hash_exact a.rows h i; segments = (segment ∙ ap (map.insert a.segments h) d.1) i; phases = phase i; counter = a.counter })

-- what was found in a segment's place stands there as before
pub found_again : {a b : ServicesState} (h : ServiceHash) → a ≡ b → (s : Segment) → map.get a.segments h ≡ Some s → {g : Segments} → g ≡ map.insert a.segments h s → record a { segments = g } ≡ b
found_again {a} h is s there segment = (λ i. record a { segments = (segment ∙ insert_same hash_total hash_exact a.segments h s there) i }) ∙ is

-- who may takes the segment or the description away, whatever else there is
module _ {a b : ServicesState} (p : Participant) (h : ServiceHash) (is : a ≡ b) {q : Position} (found : q ≡ position_in a.phases (p, h)) where
  by_found : (t : Act) → step_at a p h t ≡ view_after p h t q.phase (map.get a.rows h) (map.get a.segments h) a.counter
  by_found t = by_phase a p h t q.phase (sym (ap (λ (x : Position). x.phase) found))

  segment_tries : (o : Option Phase) → TakesSegment q.phase o → step_at a p h act.RemoveSegment ≡ option_map (λ (x : Phase). record { phase = x; row = map.get a.rows h; segment = None; counter = a.counter }) o
  segment_tries o takes = by_found act.RemoveSegment ∙ takes p h _ _ _

  pub segment_stays : (o : Option Phase) → TakesSegment q.phase o → o ≡ None → (step_at b p h act.RemoveSegment ≡ None) × (b ≡ b)
  segment_stays o takes none = refused p h act.RemoveSegment is (segment_tries o takes ∙ ap (option_map _) none) (sym is)

  pub segment_goes : (o : Option Phase) {x : Phase} {s : Segments} {f : Phases} → TakesSegment q.phase o → o ≡ Some x → s ≡ map.remove a.segments h → f ≡ set_to a.phases (p, h) (unless_idle x) → StepsTo b p h act.RemoveSegment (record a { segments = s; phases = f })
  segment_goes o {x} takes some gone phase = did p h act.RemoveSegment (record { phase = x; row = _; segment = None; counter = _ }) is (segment_tries o takes ∙ ap (option_map _) some)
      (λ i. record { rows = kept hash_total hash_exact a.rows h i; segments = gone i; phases = phase i; counter = a.counter })

  pub description_stays : {may : Bool} → TakesDescription q.phase may → may ≡ false → (step_at b p h act.RemoveDescription ≡ None) × (b ≡ b)
  description_stays takes told = refused p h act.RemoveDescription is (by_found act.RemoveDescription ∙ subst (λ (y : Bool). TakesDescription q.phase y) told takes p h _ _ _) (sym is)

  pub description_goes : {may : Bool} {r : Rows} {f : Phases} → TakesDescription q.phase may → may ≡ true → r ≡ map.remove a.rows h → f ≡ set_to a.phases (p, h) None → StepsTo b p h act.RemoveDescription (record a { rows = r; phases = f })
  description_goes takes told gone phase = did p h act.RemoveDescription (record { phase = at.Idle; row = None; segment = _; counter = _ }) is (by_found act.RemoveDescription ∙ subst (λ (y : Bool). TakesDescription q.phase y) told takes p h _ _ _)
      (λ i. record { rows = gone i; segments = kept hash_total hash_exact a.segments h i; phases = phase i; counter = a.counter })
