-- The own part of each access of a node, from what was read, what a test said and what a step did.
use Rattle.std.proofs.Common.{◌≡◌, ℕ, ◌+◌, List, Bool, true, false, Option, Some, None, inl, inr, refl, sym, ap, subst, ◌∙◌}
use Rattle.std.specs.Prelude.{Result, Ok, Err, is_some, nat_lt, ◌&&◌, if◌then◌else◌}
use Rattle.std.specs.FinMap as map
use Rattle.std.specs.declared.alloc.AllocError.{AllocError}
use Rattle.iceoryx2_description.specs.declared.description.ServiceHash.{ServiceHash}
use Rattle.iceoryx2_description.specs.Description.{Description, IsDescription}
use Rattle.iceoryx2_access.specs.Letter as letter
use Rattle.iceoryx2_access.specs.declared.storage.FetchError.{FetchError}
use Rattle.iceoryx2_access.specs.declared.storage.FetchError.TheVariants as Fetching
use Rattle.iceoryx2_access.specs.declared.storage.LockError.{LockError}
use Rattle.iceoryx2_access.specs.declared.storage.LockError.TheVariants as Locking
use Rattle.iceoryx2_access.specs.declared.storage.MakeSegmentError.{MakeSegmentError}
use Rattle.iceoryx2_access.specs.declared.storage.MakeSegmentError.TheVariants as Making
use Rattle.iceoryx2_access.specs.declared.storage.OpenSegmentError.{OpenSegmentError}
use Rattle.iceoryx2_access.specs.declared.storage.OpenSegmentError.TheVariants as Opening
use Rattle.iceoryx2_access.specs.declared.storage.PublishError.TheVariants as Publishing
use Rattle.iceoryx2_access.specs.declared.storage.Release.{Release as Released}
use Rattle.iceoryx2_access.specs.declared.storage.ReleaseError.{ReleaseError}
use Rattle.iceoryx2_access.specs.declared.storage.ReleaseError.TheVariants.{NoSuchTicket}
use Rattle.iceoryx2_access.specs.declared.storage.RemoveError.{RemoveError}
use Rattle.iceoryx2_access.specs.declared.storage.RemoveError.TheVariants as Removing
use Rattle.iceoryx2_access.specs.declared.storage.Tag.{Tag}
use Rattle.iceoryx2_access.specs.declared.storage.Tag.TheVariants.{Made}
use Rattle.iceoryx2_access.specs.declared.storage.TagError.{TagError}
use Rattle.iceoryx2_access.specs.declared.storage.TagError.TheVariants as Tagging
use Rattle.iceoryx2_world.specs.declared.world.Participant.TheVariants.{Node}
use Rattle.iceoryx2_world.specs.declared.world.Row.{Row}
use Rattle.iceoryx2_world.specs.declared.world.Row.TheVariants as row
use Rattle.iceoryx2_world.specs.declared.world.Ticket.{Ticket}
use Rattle.iceoryx2_world.specs.Sets as set
use Rattle.iceoryx2_world.specs.Orders.{tag_cmp}
use Rattle.iceoryx2_world.specs.Acts.{Act}
use Rattle.iceoryx2_world.specs.Acts as act
use Rattle.iceoryx2_world.specs.Access.{Change, nothing, view_becomes, view_becomes_with, tag_becomes, with_ticket, has_lock, has_made, is_ticket, node_view, write, or_refused, fetch_of, lock_of, make_of, opening_of, open_refusal, release_of, remove_answer, MakesTag, IsAnswer, IsSureAnswer, IsOwnPart}
use Rattle.iceoryx2_world.specs.Steps.{ServiceView}
use Rattle.iceoryx2_world.specs.World.{World, Tickets, phase_of, tag_of}
use Rattle.iceoryx2_world.proofs.AccessCases.{answered, starved, refused, surely_answered, surely_refused}
use Rattle.iceoryx2_table.specs.declared.services.Position.{Position}
use Rattle.iceoryx2_table.specs.ServicesState.{ServicesState, StepsTo, StepsOrStays, Starves, TakesLeave, position_in, segment_fits, step_at, world_with}
use Rattle.iceoryx2_table.proofs.Views.{none_of}
use Rattle.iceoryx2_table.proofs.ServiceViews.{may_join, join_counter}
use Rattle.iceoryx2_table.proofs.Accesses.{part, no_publish, may_publish, publishes_by, opens_by, make_refused, make_done}

-- the services of a world
abbrev pub services_of : World → ServicesState
services_of w = record { rows = w.rows; segments = w.segments; phases = w.phases; counter = w.counter }

services_become : (a : World) {m n : ServicesState} → n ≡ m → world_with n a.tags a.tickets ≡ world_with m a.tags a.tickets
services_become a e = ap (λ (b : ServicesState). world_with b a.tags a.tickets) e

-- a is the world as it is read in the table's fields, and w is its value
module _ {a w : World} (i : ℕ) (h : ServiceHash) (is : a ≡ w) where
  pub fetch_part : (r : Result (ℕ × List ℕ) FetchError) (o : Option Row) (c : Change) {v : World} → map.get a.rows h ≡ o → IsAnswer Fetching.OutOfMemory (fetch_of i h (node_view a i h).view o) r c → v ≡ write a i h c → IsOwnPart w (letter.Fetch i h r) v
  fetch_part r o c there own v = part (letter.Fetch i h r) c is (subst (λ (x : Option Row). IsAnswer Fetching.OutOfMemory (fetch_of i h (node_view a i h).view x) r c) (sym there) own) v

  pub fetch_unread : {b : ServicesState} (n : ℕ) (d : List ℕ) → map.get a.rows h ≡ Some (row.Published n d) → b ≡ services_of a → IsOwnPart w (letter.Fetch i h (Err Fetching.OutOfMemory)) (world_with b a.tags a.tickets)
  fetch_unread n d there same = fetch_part _ _ nothing there (inr (refl, refl)) (services_become a same)

  pub tag_part : (r : Result Tag TagError) (there : Bool) (c : Change) {v : World} → tag_of a i h ≡ there → MakesTag i h there r c → v ≡ write a i h c → IsOwnPart w (letter.MakeTag i h r) v
  tag_part r there c e own v = part (letter.MakeTag i h r) c is (subst (λ (x : Bool). MakesTag i h x r c) (sym e) own) v

  pub tag_starved : {t : set.FinSet tag_cmp} → tag_of a i h ≡ false → t ≡ a.tags → IsOwnPart w (letter.MakeTag i h (Err Tagging.OutOfMemory)) (record a { tags = t })
  tag_starved absent same = tag_part _ false nothing absent (inr (refl, refl)) (λ j. record a { tags = same j })

  pub tag_made : {s t : set.FinSet tag_cmp} → tag_of a i h ≡ false → s ≡ set.insert t (i, h) → t ≡ a.tags → IsOwnPart w (letter.MakeTag i h (Ok Made)) (record a { tags = s })
  tag_made absent kept same = tag_part _ false (tag_becomes true) absent (inl (refl, refl)) (λ j. record a { tags = (kept ∙ ap (λ x. set.insert x (i, h)) same) j })

  pub lock_part : (r : Result ℕ LockError) (o : Option Row) (c : Change) {v : World} → map.get a.rows h ≡ o → IsAnswer Locking.OutOfMemory (lock_of i h (node_view a i h).view o) r c → v ≡ write a i h c → IsOwnPart w (letter.Lock i h r) v
  lock_part r o c there own v = part (letter.Lock i h r) c is (subst (λ (x : Option Row). IsAnswer Locking.OutOfMemory (lock_of i h (node_view a i h).view x) r c) (sym there) own) v

  pub lock_starved : {b : ServicesState} → map.get a.rows h ≡ None → Starves (services_of a) (Node i) h act.Lock b → IsOwnPart w (letter.Lock i h (Err Locking.OutOfMemory)) (world_with b a.tags a.tickets)
  lock_starved absent s = lock_part _ None nothing absent (starved _ (ap (or_refused Locking.Other a.counter) s.1)) (services_become a s.3)

  pub lock_forbidden : (b : ServicesState) {done : Bool} → map.get a.rows h ≡ None → done ≡ false → StepsOrStays (services_of a) (Node i) h act.Lock done b → IsOwnPart w (letter.Lock i h (Err Locking.Other)) (world_with b a.tags a.tickets)
  lock_forbidden b absent told step =
      let s = subst (λ (y : Bool). StepsOrStays (services_of a) (Node i) h act.Lock y b) told step in
      lock_part _ None nothing absent (refused _ (ap (or_refused Locking.Other a.counter) s.0)) (services_become a s.1)

  pub locked : (b : ServicesState) {done : Bool} {n : ℕ} → map.get a.rows h ≡ None → done ≡ true → StepsOrStays (services_of a) (Node i) h act.Lock done b → n ≡ a.counter → IsOwnPart w (letter.Lock i h (Ok n)) (world_with b a.tags a.tickets)
  locked b absent told step e =
      let s = subst (λ (y : Bool). StepsOrStays (services_of a) (Node i) h act.Lock y b) told step in
      lock_part _ None (view_becomes s.0) absent (answered _ (ap (or_refused Locking.Other a.counter) s.1 ∙ ap (λ (u : ℕ). Ok (u, view_becomes s.0)) (sym e))) (services_become a s.2)

-- the answer of a removal that is done or not
abbrev pub removal : Bool → Result (Unit {0}) RemoveError
removal true = Ok tt
removal false = Err Removing.Other

-- a removal that was done or forbidden
module _ {a w : World} (i : ℕ) (h : ServiceHash) (is : a ≡ w) (b : ServicesState) (done : Bool) {told : Bool} (e : told ≡ done) where
  removes : (t : Act) (y : Bool) → StepsOrStays (services_of a) (Node i) h t y b → (c : Change) × IsSureAnswer (remove_answer i h (node_view a i h) t) (removal y) c × (world_with b a.tags a.tickets ≡ write a i h c)
  removes t true s = (view_becomes s.0, surely_answered (ap (or_refused Removing.Other tt) s.1), services_become a s.2)
  removes t false s = (nothing, surely_refused (ap (or_refused Removing.Other tt) s.0), services_become a s.1)

  steps : (t : Act) → StepsOrStays (services_of a) (Node i) h t told b → StepsOrStays (services_of a) (Node i) h t done b
  steps t s = subst (λ (y : Bool). StepsOrStays (services_of a) (Node i) h t y b) e s

  pub segment_removed : StepsOrStays (services_of a) (Node i) h act.RemoveSegment told b → IsOwnPart w (letter.RemoveSegment i h (removal done)) (world_with b a.tags a.tickets)
  segment_removed s = let r = removes act.RemoveSegment done (steps act.RemoveSegment s) in part (letter.RemoveSegment i h (removal done)) r.0 is r.1 r.2

  pub description_removed : StepsOrStays (services_of a) (Node i) h act.RemoveDescription told b → IsOwnPart w (letter.RemoveDescription i h (removal done)) (world_with b a.tags a.tickets)
  description_removed s = let r = removes act.RemoveDescription done (steps act.RemoveDescription s) in part (letter.RemoveDescription i h (removal done)) r.0 is r.1 r.2

-- a segment is made, by whether the node holds the lock of this number for at least one node
module _ {a w : World} (i : ℕ) (h : ServiceHash) (is : a ≡ w) (n m : ℕ) {q : Position} (found : q ≡ position_in a.phases (Node i, h)) {may : Bool} (test : may ≡ (has_lock n q.phase && nat_lt 0 m)) where
  allowed : (y : Bool) → may ≡ y → (has_lock n (phase_of a (Node i) h) && nat_lt 0 m) ≡ y
  allowed y e = ap (λ (x : Position). has_lock n x.phase && nat_lt 0 m) (sym found) ∙ sym test ∙ e

  make_part : (r : Result (Unit {0}) MakeSegmentError) (c : Change) (y : Bool) {v : World} → may ≡ y → IsAnswer Making.OutOfMemory (if y then make_of i h m (node_view a i h).view (map.get a.segments h) else Err Making.Other) r c → v ≡ write a i h c → IsOwnPart w (letter.MakeSegment i h n m r) v
  make_part r c y e own v = part (letter.MakeSegment i h n m r) c is (subst (λ (x : Bool). IsAnswer Making.OutOfMemory (if x then make_of i h m (node_view a i h).view (map.get a.segments h) else Err Making.Other) r c) (sym (allowed y e)) own) v

  pub make_barred : may ≡ false → IsOwnPart w (letter.MakeSegment i h n m (Err Making.Other)) w
  make_barred e = make_part _ nothing false e (refl, refl) (sym is)

  pub make_starved : {b : ServicesState} → may ≡ true → Starves (services_of a) (Node i) h (act.Make m) b → IsOwnPart w (letter.MakeSegment i h n m (Err Making.OutOfMemory)) (world_with b a.tags a.tickets)
  make_starved e s = make_part _ nothing true e (starved _ (make_done i h m _ _ _ _ s.0 s.1)) (services_become a s.3)

  pub makes : (b : ServicesState) → may ≡ true → StepsTo (services_of a) (Node i) h (act.Make m) b → IsOwnPart w (letter.MakeSegment i h n m (Ok tt)) (world_with b a.tags a.tickets)
  makes b e s = make_part _ (view_becomes s.0) true e (answered _ (make_done i h m _ _ _ _ s.0 s.1)) (services_become a s.2)

  -- the segment is there
  pub make_exists : may ≡ true → is_some (map.get a.segments h) ≡ true → IsOwnPart w (letter.MakeSegment i h n m (Err Making.AlreadyExists)) w
  make_exists e there = make_part _ nothing true e (refused _ (make_refused i h m (node_view a i h).view (map.get a.segments h) there)) (sym is)

  -- none is there, and the step is forbidden all the same
  pub make_forbidden : {b : ServicesState} → may ≡ true → is_some (map.get a.segments h) ≡ false → StepsOrStays (services_of a) (Node i) h (act.Make m) false b → IsOwnPart w (letter.MakeSegment i h n m (Err Making.Other)) (world_with b a.tags a.tickets)
  make_forbidden e absent s = make_part _ nothing true e
      (refused _ (ap (make_of i h m (node_view a i h).view) (none_of _ absent) ∙ ap (or_refused Making.Other tt) s.0)) (services_become a s.1)

-- a description is published, by whether the node has made a segment under the lock of this number
module _ {a w : World} (i : ℕ) (h : ServiceHash) (is : a ≡ w) (n : ℕ) (d : Description) {q : Position} (found : q ≡ position_in a.phases (Node i, h)) {made : Bool} (test : made ≡ has_made n q.phase) where
  has : (y : Bool) → made ≡ y → has_made n (phase_of a (Node i) h) ≡ y
  has y e = ap (λ (x : Position). has_made n x.phase) (sym found) ∙ sym test ∙ e

  refused_publish : (has_made n (phase_of a (Node i) h) && segment_fits h (map.get a.segments h) d) ≡ false → IsOwnPart w (letter.Publish i h n d (Err Publishing.Other)) w
  refused_publish e = part (letter.Publish i h n d (Err Publishing.Other)) nothing is (tt, refused _ (no_publish i h n d a.tickets _ _ _ _ e)) (sym is)

  pub not_made : made ≡ false → IsOwnPart w (letter.Publish i h n d (Err Publishing.Other)) w
  not_made e = refused_publish (ap (λ x. x && segment_fits h (map.get a.segments h) d) (has false e))

  pub not_fitting : made ≡ true → segment_fits h (map.get a.segments h) d ≡ false → IsOwnPart w (letter.Publish i h n d (Err Publishing.Other)) w
  not_fitting e fit = refused_publish (λ j. has true e j && fit j)

  pub no_ticket : {k : Tickets} → made ≡ true → segment_fits h (map.get a.segments h) d ≡ true → k ≡ a.tickets → IsOwnPart w (letter.Publish i h n d (Err Publishing.OutOfMemory)) (record a { tickets = k })
  no_ticket e fit same =
      let may = may_publish i h n d a.tickets (map.get a.rows h) a.counter _ _ (λ j. has true e j && fit j) in
      part (letter.Publish i h n d (Err Publishing.OutOfMemory)) nothing is
      (tt, starved _ (publishes_by i h n d a.tickets _ _ _ _ _ may.0 may.1.is))
      (λ j. record a { tickets = same j })

  pub publish_starved : {b : ServicesState} {k : Tickets} → made ≡ true → Starves (services_of a) (Node i) h (act.Publish d) b → k ≡ a.tickets → IsOwnPart w (letter.Publish i h n d (Err Publishing.OutOfMemory)) (world_with b a.tags k)
  publish_starved e s same =
      part (letter.Publish i h n d (Err Publishing.OutOfMemory)) nothing is
      (tt, starved _ (publishes_by i h n d a.tickets _ _ _ _ _ (has true e) s.1))
      (λ j. world_with (s.3 j) a.tags (same j))

  pub publish_forbidden : (b : ServicesState) {k : Tickets} → made ≡ true → StepsOrStays (services_of a) (Node i) h (act.Publish d) false b → k ≡ a.tickets → IsOwnPart w (letter.Publish i h n d (Err Publishing.Other)) (world_with b a.tags k)
  publish_forbidden b e s same =
      part (letter.Publish i h n d (Err Publishing.Other)) nothing is
      (tt, refused _ (publishes_by i h n d a.tickets _ _ _ _ _ (has true e) s.0))
      (λ j. world_with (s.1 j) a.tags (same j))

  pub published : (b : ServicesState) {done : Bool} {k m : Tickets} {x : Ticket} → made ≡ true → done ≡ true → StepsOrStays (services_of a) (Node i) h (act.Publish d) done b → (◌≡◌ {A = Result Bool AllocError} (Ok done) (Ok true) → IsDescription d) → k ≡ map.insert m n x → x ≡ record { node = i; hash = h; number = n } → m ≡ a.tickets → IsOwnPart w (letter.Publish i h n d (Ok n)) (world_with b a.tags k)
  published b e told step limits kept held same =
      let s = subst (λ (y : Bool). StepsOrStays (services_of a) (Node i) h (act.Publish d) y b) told step in
      part (letter.Publish i h n d (Ok n)) (view_becomes_with s.0 (with_ticket i h a.tickets n n)) is
      (limits (ap Ok told), answered _ (publishes_by i h n d a.tickets _ _ _ _ _ (has true e) s.1))
      (λ j. world_with (s.2 j) a.tags ((kept ∙ (λ l. map.insert (same l) n (held l))) j))

-- a segment is opened, by what was found against it
module _ {a w : World} (i : ℕ) (h : ServiceHash) (is : a ≡ w) (n : ℕ) {q : Position} (found : q ≡ position_in a.phases (Node i, h)) {refusal : Option OpenSegmentError} (test : refusal ≡ open_refusal n (map.get a.segments h) a.counter q.phase) where
  against : (o : Option OpenSegmentError) → refusal ≡ o → open_refusal n (map.get a.segments h) a.counter (phase_of a (Node i) h) ≡ o
  against o e = ap (λ (x : Position). open_refusal n (map.get a.segments h) a.counter x.phase) (sym found) ∙ sym test ∙ e

  opens : (o : Option ServiceView) (x : ServiceView) → refusal ≡ None → o ≡ Some x → opening_of i h n (node_view a i h) (open_refusal n (map.get a.segments h) a.counter (phase_of a (Node i) h)) o ≡ Ok (a.counter, view_becomes_with (record x { counter = a.counter + 1 }) (with_ticket i h a.tickets a.counter n))
  opens o x e f = opens_by i h n (node_view a i h) _ o x (against None e) f

  pub open_refused : (e : OpenSegmentError) → refusal ≡ Some e → IsOwnPart w (letter.OpenSegment i h n (Err e)) w
  open_refused e is_e = part (letter.OpenSegment i h n (Err e)) nothing is
      (refused _ (ap (λ (r : Option OpenSegmentError). opening_of i h n (node_view a i h) r (step_at (services_of a) (Node i) h act.Join)) (against (Some e) is_e)))
      (sym is)

  pub open_no_ticket : {k : Tickets} → refusal ≡ None → k ≡ a.tickets → IsOwnPart w (letter.OpenSegment i h n (Err Opening.OutOfMemory)) (record a { tickets = k })
  open_no_ticket e same =
      let may = (may_join (Node i) h n a.counter (map.get a.rows h) _ _ (against None e)).1 in
      part (letter.OpenSegment i h n (Err Opening.OutOfMemory)) nothing is
      (starved _ (opens _ _ e may.1))
      (λ j. record a { tickets = same j })

  pub open_starved : {b : ServicesState} {k : Tickets} → refusal ≡ None → Starves (services_of a) (Node i) h act.Join b → k ≡ a.tickets → IsOwnPart w (letter.OpenSegment i h n (Err Opening.OutOfMemory)) (world_with b a.tags k)
  open_starved e s same =
      part (letter.OpenSegment i h n (Err Opening.OutOfMemory)) nothing is
      (starved _ (opens _ _ e s.1))
      (λ j. world_with (s.3 j) a.tags (same j))

  pub open_forbidden : (b : ServicesState) {k : Tickets} → refusal ≡ None → StepsOrStays (services_of a) (Node i) h act.Join false b → k ≡ a.tickets → IsOwnPart w (letter.OpenSegment i h n (Err Opening.Failed)) (world_with b a.tags k)
  open_forbidden b e s same =
      part (letter.OpenSegment i h n (Err Opening.Failed)) nothing is
      (refused _ (ap (λ (r : Option OpenSegmentError). opening_of i h n (node_view a i h) r (step_at (services_of a) (Node i) h act.Join)) (against None e) ∙ ap (opening_of i h n (node_view a i h) None) s.0))
      (λ j. world_with (s.1 j) a.tags (same j))

  -- the ticket is the number that is handed out behind the join
  pub opened : (b : ServicesState) {done : Bool} {v : ServicesState} {u : ℕ} {k m : Tickets} {t : Ticket} → refusal ≡ None → done ≡ true → StepsOrStays (services_of a) (Node i) h act.Join done b → u ≡ b.counter → v ≡ record b { counter = b.counter + 1 } → k ≡ map.insert m u t → t ≡ record { node = i; hash = h; number = n } → m ≡ a.tickets → IsOwnPart w (letter.OpenSegment i h n (Ok u)) (world_with v a.tags k)
  opened b {u = u} e told step ticket counted kept held still =
      let s = subst (λ (y : Bool). StepsOrStays (services_of a) (Node i) h act.Join y b) told step in
      let x : ServiceView = s.0 in
      let same : b.counter ≡ a.counter = ap (λ (y : ServicesState). y.counter) s.2 ∙ join_counter (Node i) h (phase_of a (Node i) h) (map.get a.rows h) (map.get a.segments h) a.counter x s.1 in
      let is_u : a.counter ≡ u = sym (ticket ∙ same) in
      let next : b.counter + 1 ≡ u + 1 = ap (λ y. y + 1) (sym ticket) in
      part (letter.OpenSegment i h n (Ok u)) (view_becomes_with (record x { counter = u + 1 }) (with_ticket i h a.tickets u n)) is
      (answered _ (opens _ _ e s.1 ∙ ap (λ y. Ok (y, view_becomes_with (record x { counter = y + 1 }) (with_ticket i h a.tickets y n))) is_u))
      (λ j. world_with ((counted ∙ (λ l. record (s.2 l) { counter = next l })) j) a.tags ((kept ∙ (λ l. map.insert (still l) u (held l))) j))

-- a ticket is given back, by whether it is one of this node for this service and number
module _ {a w : World} (i : ℕ) (h : ServiceHash) (is : a ≡ w) (u n : ℕ) {o : Option Ticket} (found : o ≡ map.get a.tickets u) {held : Bool} (test : held ≡ is_ticket i h n o) where
  release_part : (r : Result Released ReleaseError) (c : Change) (y : Bool) {v : World} → held ≡ y → IsSureAnswer (if y then release_of i h u a.tickets (step_at (services_of a) (Node i) h act.Leave) else Err NoSuchTicket) r c → v ≡ write a i h c → IsOwnPart w (letter.Release u i h n r) v
  release_part r c y e own v = part (letter.Release u i h n r) c is (subst (λ (x : Bool). IsSureAnswer (if x then release_of i h u a.tickets (step_at (services_of a) (Node i) h act.Leave) else Err NoSuchTicket) r c) (sym (ap (is_ticket i h n) (sym found) ∙ sym test ∙ e)) own) v

  pub not_held : held ≡ false → IsOwnPart w (letter.Release u i h n (Err NoSuchTicket)) w
  not_held e = release_part _ nothing false e (refl, refl) (sym is)

  pub not_released : {b : ServicesState} → held ≡ true → (step_at (services_of a) (Node i) h act.Leave ≡ None) × (b ≡ services_of a) → IsOwnPart w (letter.Release u i h n (Err NoSuchTicket)) (world_with b a.tags a.tickets)
  not_released e s = release_part _ nothing true e (surely_refused (ap (release_of i h u a.tickets) s.0)) (services_become a s.1)

  pub released : {b : ServicesState} {k : Tickets} (r : Released) → held ≡ true → TakesLeave (services_of a) (Node i) h (Some r) b → k ≡ map.remove a.tickets u → IsOwnPart w (letter.Release u i h n (Ok r)) (world_with b a.tags k)
  released r e s gone = release_part _ (view_becomes_with s.0 (map.remove a.tickets u)) true e
      (surely_answered (ap (release_of i h u a.tickets) s.1 ∙ ap (λ x. Ok (x, view_becomes_with s.0 (map.remove a.tickets u))) (sym s.2)))
      (λ j. world_with (s.3 j) a.tags (gone j))
