-- The twelve accesses, a line for each answer: when it is given and what it changes. Start here. That code comes to
-- just these is `accesses`, of the functions in Access.
use Rattle.std.specs.Prelude.{◌≡◌, ◌≢◌, ℕ, ◌+◌, ◌<◌, ◌≤◌, true, false, ◌⊎◌}
use Rattle.std.specs.Prelude.{List, Option, Some, None, Ok, Err}
use Rattle.std.specs.FinMap as map
use Rattle.iceoryx2_description.specs.declared.description.ServiceHash.{ServiceHash}
use Rattle.iceoryx2_description.specs.Description.{Description, IsDescription}
use Rattle.iceoryx2_world.specs.Sets as set
use Rattle.iceoryx2_world.specs.declared.world.Participant.TheVariants.{Node}
use Rattle.iceoryx2_world.specs.declared.world.Phase.{Phase}
use Rattle.iceoryx2_world.specs.declared.world.Phase.TheVariants as at
use Rattle.iceoryx2_world.specs.declared.world.Row.TheVariants as row
use Rattle.iceoryx2_world.specs.World.{World, Segment, begins}
use Rattle.iceoryx2_world.specs.Acts.{Act}
use Rattle.iceoryx2_world.specs.Acts as act
use Rattle.iceoryx2_world.specs.Steps.{ServiceView, last_number}
use Rattle.iceoryx2_world.specs.StepCases.{IsStep}
use Rattle.iceoryx2_world.specs.Access.{NodeView, Change, node_view, write, nothing, view_becomes, tag_becomes}
use Rattle.iceoryx2_world.specs.Access.{view_becomes_with, with_ticket}
use Rattle.iceoryx2_access.specs.declared.storage.Existence.TheVariants.{No, Yes, BeingSetUp}
use Rattle.iceoryx2_access.specs.declared.storage.FetchError.TheVariants as Fetching
use Rattle.iceoryx2_access.specs.declared.storage.Tag.TheVariants.{Made, Found}
use Rattle.iceoryx2_access.specs.declared.storage.TagError.TheVariants as Tagging
use Rattle.iceoryx2_access.specs.declared.storage.RemoveError.TheVariants as Removing
use Rattle.iceoryx2_access.specs.declared.storage.LockError.TheVariants as Locking
use Rattle.iceoryx2_access.specs.declared.storage.MakeSegmentError.TheVariants as Making
use Rattle.iceoryx2_access.specs.declared.storage.PublishError.TheVariants as Publishing
use Rattle.iceoryx2_access.specs.declared.storage.OpenSegmentError.TheVariants as Opening
use Rattle.iceoryx2_access.specs.declared.storage.Release.TheVariants as Leaving
use Rattle.iceoryx2_access.specs.declared.storage.ReleaseError.TheVariants.{NoSuchTicket}
use Rattle.iceoryx2_access.specs.Letter.{Letter, acting_node, service_of, Exists, Fetch, Counts, MakeTag, RemoveTag, Lock}
use Rattle.iceoryx2_access.specs.Letter.{MakeSegment, RemoveSegment, RemoveDescription, Publish, OpenSegment, Release}

-- the node's step is one of the fourteen, and comes to this
abbrev pub Takes : ℕ → ServiceHash → Act → ServiceView → ServiceView → Type 0
Takes i h a x y = IsStep (Node i) h a x.phase x.row x.segment x.counter y

-- it is none of the fourteen
abbrev pub IsForbidden : ℕ → ServiceHash → Act → ServiceView → Type 0
IsForbidden i h a x = (y : ServiceView) → Takes i h a x y → ⊥

-- an unmarked segment of this number is there
pub record IsUnmarked (o : Option Segment) (n : ℕ) (x : Segment) : Type 0 where
  pub there : o ≡ Some x
  pub number : x.number ≡ n
  pub unmarked : x.marked ≡ false

-- who may have a place in the segment of this number: it has read the number and there is room, or has joined it
abbrev pub MayJoin : ℕ → Segment → Phase → Type 0
MayJoin n x f = ((f ≡ at.Read n) × (set.len x.participants < x.capacity)) ⊎ ((k : ℕ) × (f ≡ at.Joined n k))

-- What an access answers and changes of what its node sees: one line of the table each. The tests that come
-- before a line's own have not decided. Where its tests pass and the step is forbidden all the same, an access
-- answers its general refusal and changes nothing.
pub data IsAccessCase (s : NodeView) : Letter → Change → Type 0 where
  -- exists
  is_absent : {h : ServiceHash} → s.view.row ≡ None → IsAccessCase s (Exists h No) nothing
  is_being_set_up : {h : ServiceHash} {n : ℕ} → s.view.row ≡ Some (row.Locked n)
      → IsAccessCase s (Exists h BeingSetUp) nothing
  is_there : {h : ServiceHash} {n : ℕ} {b : List ℕ} → s.view.row ≡ Some (row.Published n b)
      → IsAccessCase s (Exists h Yes) nothing
  -- fetch: who may not read what is published is told it, and takes no step
  fetch_absent : {i : ℕ} {h : ServiceHash} → s.view.row ≡ None
      → IsAccessCase s (Fetch i h (Err Fetching.DoesNotExist)) nothing
  fetch_locked : {i : ℕ} {h : ServiceHash} {n : ℕ} → s.view.row ≡ Some (row.Locked n)
      → IsAccessCase s (Fetch i h (Err Fetching.NotFinalized)) nothing
  fetch_starves : {i : ℕ} {h : ServiceHash} {n : ℕ} {b : List ℕ} → s.view.row ≡ Some (row.Published n b)
      → IsAccessCase s (Fetch i h (Err Fetching.OutOfMemory)) nothing
  fetch_reads : {i : ℕ} {h : ServiceHash} {n : ℕ} {b : List ℕ} {y : ServiceView}
      → s.view.row ≡ Some (row.Published n b) → begins s.view.phase ≡ true → Takes i h act.Read s.view y
      → IsAccessCase s (Fetch i h (Ok (n, b))) (view_becomes y)
  fetch_sees : {i : ℕ} {h : ServiceHash} {n : ℕ} {b : List ℕ}
      → s.view.row ≡ Some (row.Published n b) → begins s.view.phase ≡ false
      → IsAccessCase s (Fetch i h (Ok (n, b))) nothing
  -- counts
  is_counted : {i : ℕ} {h : ServiceHash} {n k : ℕ} → s.view.phase ≡ at.Joined n k
      → IsAccessCase s (Counts i h true) nothing
  is_uncounted : {i : ℕ} {h : ServiceHash} → ((n k : ℕ) → s.view.phase ≢ at.Joined n k)
      → IsAccessCase s (Counts i h false) nothing
  -- make_tag, remove_tag
  tag_found : {i : ℕ} {h : ServiceHash} → s.tag ≡ true → IsAccessCase s (MakeTag i h (Ok Found)) nothing
  tag_starves : {i : ℕ} {h : ServiceHash} → s.tag ≡ false
      → IsAccessCase s (MakeTag i h (Err Tagging.OutOfMemory)) nothing
  tag_made : {i : ℕ} {h : ServiceHash} → s.tag ≡ false
      → IsAccessCase s (MakeTag i h (Ok Made)) (tag_becomes true)
  tag_removed : {i : ℕ} {h : ServiceHash} → IsAccessCase s (RemoveTag i h (Ok tt)) (tag_becomes false)
  -- lock
  lock_held : {i : ℕ} {h : ServiceHash} {n : ℕ} → s.view.row ≡ Some (row.Locked n)
      → IsAccessCase s (Lock i h (Err Locking.Creation)) nothing
  lock_late : {i : ℕ} {h : ServiceHash} {n : ℕ} {b : List ℕ} → s.view.row ≡ Some (row.Published n b)
      → IsAccessCase s (Lock i h (Err Locking.AlreadyExists)) nothing
  lock_at_end : {i : ℕ} {h : ServiceHash} → s.view.row ≡ None → last_number ≤ s.view.counter
      → IsAccessCase s (Lock i h (Err Locking.Other)) nothing
  lock_forbidden : {i : ℕ} {h : ServiceHash} → s.view.row ≡ None → s.view.counter < last_number
      → IsForbidden i h act.Lock s.view
      → IsAccessCase s (Lock i h (Err Locking.Other)) nothing
  lock_starves : {i : ℕ} {h : ServiceHash} {y : ServiceView} → s.view.row ≡ None → Takes i h act.Lock s.view y
      → IsAccessCase s (Lock i h (Err Locking.OutOfMemory)) nothing
  lock_taken : {i : ℕ} {h : ServiceHash} {y : ServiceView} → s.view.row ≡ None → Takes i h act.Lock s.view y
      → IsAccessCase s (Lock i h (Ok s.view.counter)) (view_becomes y)
  -- make_segment: its tests leave no forbidden step
  make_unlocked : {i : ℕ} {h : ServiceHash} {n m : ℕ} → s.view.phase ≢ at.Locked n
      → IsAccessCase s (MakeSegment i h n m (Err Making.Other)) nothing
  make_for_nobody : {i : ℕ} {h : ServiceHash} {n m : ℕ} → s.view.phase ≡ at.Locked n → m ≡ 0
      → IsAccessCase s (MakeSegment i h n m (Err Making.Other)) nothing
  make_again : {i : ℕ} {h : ServiceHash} {n m : ℕ} {x : Segment} → s.view.phase ≡ at.Locked n → 0 < m
      → s.view.segment ≡ Some x
      → IsAccessCase s (MakeSegment i h n m (Err Making.AlreadyExists)) nothing
  make_starves : {i : ℕ} {h : ServiceHash} {n m : ℕ} {y : ServiceView} → s.view.phase ≡ at.Locked n → 0 < m
      → s.view.segment ≡ None → Takes i h (act.Make m) s.view y
      → IsAccessCase s (MakeSegment i h n m (Err Making.OutOfMemory)) nothing
  make_made : {i : ℕ} {h : ServiceHash} {n m : ℕ} {y : ServiceView} → s.view.phase ≡ at.Locked n → 0 < m
      → s.view.segment ≡ None → Takes i h (act.Make m) s.view y
      → IsAccessCase s (MakeSegment i h n m (Ok tt)) (view_becomes y)
  -- remove_segment, remove_description
  segment_kept : {i : ℕ} {h : ServiceHash} → IsForbidden i h act.RemoveSegment s.view
      → IsAccessCase s (RemoveSegment i h (Err Removing.Other)) nothing
  segment_removed : {i : ℕ} {h : ServiceHash} {y : ServiceView} → Takes i h act.RemoveSegment s.view y
      → IsAccessCase s (RemoveSegment i h (Ok tt)) (view_becomes y)
  description_kept : {i : ℕ} {h : ServiceHash} → IsForbidden i h act.RemoveDescription s.view
      → IsAccessCase s (RemoveDescription i h (Err Removing.Other)) nothing
  description_removed : {i : ℕ} {h : ServiceHash} {y : ServiceView} → Takes i h act.RemoveDescription s.view y
      → IsAccessCase s (RemoveDescription i h (Ok tt)) (view_becomes y)
  -- publish: the ticket is the number
  publish_forbidden : {i : ℕ} {h : ServiceHash} {n : ℕ} {d : Description} → IsForbidden i h (act.Publish d) s.view
      → IsAccessCase s (Publish i h n d (Err Publishing.Other)) nothing
  publish_another : {i : ℕ} {h : ServiceHash} {n : ℕ} {d : Description} {y : ServiceView}
      → Takes i h (act.Publish d) s.view y → s.view.phase ≢ at.Made n
      → IsAccessCase s (Publish i h n d (Err Publishing.Other)) nothing
  publish_starves : {i : ℕ} {h : ServiceHash} {n : ℕ} {d : Description} {y : ServiceView}
      → Takes i h (act.Publish d) s.view y → s.view.phase ≡ at.Made n
      → IsAccessCase s (Publish i h n d (Err Publishing.OutOfMemory)) nothing
  publish_done : {i : ℕ} {h : ServiceHash} {n : ℕ} {d : Description} {y : ServiceView} → IsDescription d
      → Takes i h (act.Publish d) s.view y → s.view.phase ≡ at.Made n
      → IsAccessCase s (Publish i h n d (Ok n)) (view_becomes_with y (with_ticket i h s.tickets n n))
  -- open_segment: the ticket is from the counter
  open_absent : {i : ℕ} {h : ServiceHash} {n : ℕ} → s.view.segment ≡ None
      → IsAccessCase s (OpenSegment i h n (Err Opening.DoesNotExist)) nothing
  open_another : {i : ℕ} {h : ServiceHash} {n : ℕ} {x : Segment} → s.view.segment ≡ Some x → x.number ≢ n
      → IsAccessCase s (OpenSegment i h n (Err Opening.Failed)) nothing
  open_marked : {i : ℕ} {h : ServiceHash} {n : ℕ} {x : Segment} → s.view.segment ≡ Some x → x.number ≡ n
      → x.marked ≡ true
      → IsAccessCase s (OpenSegment i h n (Err Opening.Marked)) nothing
  open_unread : {i : ℕ} {h : ServiceHash} {n : ℕ} {x : Segment} → IsUnmarked s.view.segment n x
      → s.view.phase ≢ at.Read n → ((k : ℕ) → s.view.phase ≢ at.Joined n k)
      → IsAccessCase s (OpenSegment i h n (Err Opening.Failed)) nothing
  open_full : {i : ℕ} {h : ServiceHash} {n : ℕ} {x : Segment} → IsUnmarked s.view.segment n x
      → s.view.phase ≡ at.Read n → x.capacity ≤ set.len x.participants
      → IsAccessCase s (OpenSegment i h n (Err Opening.Full)) nothing
  open_at_end : {i : ℕ} {h : ServiceHash} {n : ℕ} {x : Segment} → IsUnmarked s.view.segment n x
      → MayJoin n x s.view.phase → last_number ≤ s.view.counter
      → IsAccessCase s (OpenSegment i h n (Err Opening.OutOfNumbers)) nothing
  open_forbidden : {i : ℕ} {h : ServiceHash} {n : ℕ} {x : Segment} → IsUnmarked s.view.segment n x
      → MayJoin n x s.view.phase → s.view.counter < last_number → IsForbidden i h act.Join s.view
      → IsAccessCase s (OpenSegment i h n (Err Opening.Failed)) nothing
  open_starves : {i : ℕ} {h : ServiceHash} {n : ℕ} {x : Segment} {y : ServiceView} → IsUnmarked s.view.segment n x
      → MayJoin n x s.view.phase → s.view.counter < last_number → Takes i h act.Join s.view y
      → IsAccessCase s (OpenSegment i h n (Err Opening.OutOfMemory)) nothing
  open_joined : {i : ℕ} {h : ServiceHash} {n : ℕ} {x : Segment} {y : ServiceView} → IsUnmarked s.view.segment n x
      → MayJoin n x s.view.phase → s.view.counter < last_number → Takes i h act.Join s.view y
      → IsAccessCase s (OpenSegment i h n (Ok s.view.counter))
      (view_becomes_with (record y { counter = s.view.counter + 1 }) (with_ticket i h s.tickets s.view.counter n))
  -- release: the ticket is taken out, and the answer tells which of the three leaves it was
  release_unknown : {t i : ℕ} {h : ServiceHash} {n : ℕ}
      → map.get s.tickets t ≢ Some (record { node = i; hash = h; number = n })
      → IsAccessCase s (Release t i h n (Err NoSuchTicket)) nothing
  release_forbidden : {t i : ℕ} {h : ServiceHash} {n : ℕ}
      → map.get s.tickets t ≡ Some (record { node = i; hash = h; number = n })
      → IsForbidden i h act.Leave s.view
      → IsAccessCase s (Release t i h n (Err NoSuchTicket)) nothing
  release_counted : {t i : ℕ} {h : ServiceHash} {n m k : ℕ} {y : ServiceView}
      → map.get s.tickets t ≡ Some (record { node = i; hash = h; number = n })
      → Takes i h act.Leave s.view y → y.phase ≡ at.Joined m k
      → IsAccessCase s (Release t i h n (Ok Leaving.StillCounted)) (view_becomes_with y (map.remove s.tickets t))
  release_left : {t i : ℕ} {h : ServiceHash} {n : ℕ} {y : ServiceView}
      → map.get s.tickets t ≡ Some (record { node = i; hash = h; number = n })
      → Takes i h act.Leave s.view y → y.phase ≡ at.Idle
      → IsAccessCase s (Release t i h n (Ok Leaving.Left)) (view_becomes_with y (map.remove s.tickets t))
  release_last : {t i : ℕ} {h : ServiceHash} {n m : ℕ} {y : ServiceView}
      → map.get s.tickets t ≡ Some (record { node = i; hash = h; number = n })
      → Takes i h act.Leave s.view y → y.phase ≡ at.Leaving m
      → IsAccessCase s (Release t i h n (Ok Leaving.Last)) (view_becomes_with y (map.remove s.tickets t))

-- The node's own part of an access by these cases, in the world.
pub record IsOwnCase (w : World) (l : Letter) (v : World) : Type 0 where
  pub change : Change
  pub own : IsAccessCase (node_view w (acting_node l) (service_of l)) l change
  pub is : v ≡ write w (acting_node l) (service_of l) change
