-- The tests of an access as code makes them, on what its node sees of that service, in their order, and then at most
-- one step. The accesses themselves are read in AccessCases.
use Rattle.std.specs.Prelude.{◌≡◌, ℕ, ◌+◌, Bool, true, false, ◌&&◌, nat_lt, ◌==◌, if◌then◌else◌}
use Rattle.std.specs.Prelude.{List, Option, Some, None, Result, Ok, Err, ◌⊎◌, OnOk, unwrap_or}
use Rattle.std.specs.FinMap as map
use Rattle.std.specs.Ordering.{eq_by_cmp}
use Rattle.iceoryx2_description.specs.declared.description.ServiceHash.{ServiceHash}
use Rattle.iceoryx2_description.specs.Description.{Description, IsDescription}
use Rattle.iceoryx2_world.specs.Sets as set
use Rattle.iceoryx2_world.specs.declared.world.Participant.TheVariants.{Node}
use Rattle.iceoryx2_world.specs.declared.world.Ticket.{Ticket}
use Rattle.iceoryx2_world.specs.declared.world.Phase.{Phase}
use Rattle.iceoryx2_world.specs.declared.world.Phase.TheVariants as at
use Rattle.iceoryx2_world.specs.declared.world.Row.{Row}
use Rattle.iceoryx2_world.specs.declared.world.Row.TheVariants as row
use Rattle.iceoryx2_world.specs.Orders.{hash_cmp, tag_cmp}
use Rattle.iceoryx2_world.specs.World.{World, Segment, Tickets, row_of, segment_of, phase_of, tag_of}
use Rattle.iceoryx2_world.specs.Acts.{Act}
use Rattle.iceoryx2_world.specs.Acts as act
use Rattle.iceoryx2_world.specs.Steps.{ServiceView, view_after, put, has_room, last_number}
use Rattle.iceoryx2_access.specs.declared.storage.Existence.{Existence}
use Rattle.iceoryx2_access.specs.declared.storage.Existence.TheVariants.{No, Yes, BeingSetUp}
use Rattle.iceoryx2_access.specs.declared.storage.FetchError.{FetchError}
use Rattle.iceoryx2_access.specs.declared.storage.FetchError.TheVariants as Fetching
use Rattle.iceoryx2_access.specs.declared.storage.Tag.{Tag}
use Rattle.iceoryx2_access.specs.declared.storage.Tag.TheVariants.{Made, Found}
use Rattle.iceoryx2_access.specs.declared.storage.TagError.{TagError}
use Rattle.iceoryx2_access.specs.declared.storage.TagError.TheVariants as Tagging
use Rattle.iceoryx2_access.specs.declared.storage.RemoveError.{RemoveError}
use Rattle.iceoryx2_access.specs.declared.storage.RemoveError.TheVariants as Removing
use Rattle.iceoryx2_access.specs.declared.storage.LockError.{LockError}
use Rattle.iceoryx2_access.specs.declared.storage.LockError.TheVariants as Locking
use Rattle.iceoryx2_access.specs.declared.storage.MakeSegmentError.{MakeSegmentError}
use Rattle.iceoryx2_access.specs.declared.storage.MakeSegmentError.TheVariants as Making
use Rattle.iceoryx2_access.specs.declared.storage.PublishError.{PublishError}
use Rattle.iceoryx2_access.specs.declared.storage.PublishError.TheVariants as Publishing
use Rattle.iceoryx2_access.specs.declared.storage.OpenSegmentError.{OpenSegmentError}
use Rattle.iceoryx2_access.specs.declared.storage.OpenSegmentError.TheVariants as Opening
use Rattle.iceoryx2_access.specs.declared.storage.Release.{Release as Released}
use Rattle.iceoryx2_access.specs.declared.storage.Release.TheVariants as Leaving
use Rattle.iceoryx2_access.specs.declared.storage.ReleaseError.{ReleaseError}
use Rattle.iceoryx2_access.specs.declared.storage.ReleaseError.TheVariants.{NoSuchTicket}
use Rattle.iceoryx2_access.specs.Letter.{Letter, acting_node, service_of}
use Rattle.iceoryx2_access.specs.Letter as letter

-- What a node's access to a service reads.
pub record NodeView : Type 0 where
  pub view : ServiceView
  pub tag : Bool
  pub tickets : Tickets

-- What it changes: what is none stays.
pub record Change : Type 0 where
  pub view : Option ServiceView
  pub tag : Option Bool
  pub tickets : Option Tickets

abbrev pub node_view : World → ℕ → ServiceHash → NodeView
node_view w i h = record {
  view = record { phase = phase_of w (Node i) h; row = row_of w h; segment = segment_of w h; counter = w.counter };
  tag = tag_of w i h;
  tickets = w.tickets;
}

abbrev pub put_view : World → ℕ → ServiceHash → Option ServiceView → World
put_view w i h None = w
put_view w i h (Some s) = put w (Node i) h s

abbrev pub set_tag : set.FinSet tag_cmp → ℕ × ServiceHash → Option Bool → set.FinSet tag_cmp
set_tag t k None = t
set_tag t k (Some true) = set.insert t k
set_tag t k (Some false) = set.remove t k

-- the world with the change
abbrev pub write : World → ℕ → ServiceHash → Change → World
write w i h c = record (put_view w i h c.view) {
  tags = set_tag w.tags (i, h) c.tag;
  tickets = unwrap_or c.tickets w.tickets;
}

-- what it sees after the change
abbrev pub node_view_after : NodeView → Change → NodeView
node_view_after s c = record {
  view = unwrap_or c.view s.view;
  tag = unwrap_or c.tag s.tag;
  tickets = unwrap_or c.tickets s.tickets;
}

abbrev pub nothing : Change
nothing = record { view = None; tag = None; tickets = None }

abbrev pub view_becomes : ServiceView → Change
view_becomes x = record { view = Some x; tag = None; tickets = None }

abbrev pub tag_becomes : Bool → Change
tag_becomes b = record { view = None; tag = Some b; tickets = None }

abbrev pub view_becomes_with : ServiceView → Tickets → Change
view_becomes_with x k = record { view = Some x; tag = None; tickets = Some k }

-- An answer with its change, or out of memory in a success's place, which changes nothing.
abbrev pub IsAnswer : {A E : Type 0} → E → Result (A × Change) E → Result A E → Change → Type 0
IsAnswer no_memory (Ok x) r c = ((r ≡ Ok x.0) × (c ≡ x.1)) ⊎ ((r ≡ Err no_memory) × (c ≡ nothing))
IsAnswer no_memory (Err e) r c = (r ≡ Err e) × (c ≡ nothing)

-- An answer with its change, whatever memory there is.
abbrev pub IsSureAnswer : {A E : Type 0} → Result (A × Change) E → Result A E → Change → Type 0
IsSureAnswer (Ok x) r c = (r ≡ Ok x.0) × (c ≡ x.1)
IsSureAnswer (Err e) r c = (r ≡ Err e) × (c ≡ nothing)

-- the step, or the refusal where it is forbidden
abbrev pub or_refused : {A E : Type 0} → E → A → Option ServiceView → Result (A × Change) E
or_refused e a None = Err e
or_refused e a (Some x) = Ok (a, view_becomes x)

abbrev pub existence : Option Row → Existence
existence None = No
existence (Some (row.Locked n)) = BeingSetUp
existence (Some (row.Published n b)) = Yes

abbrev pub is_joined : Phase → Bool
is_joined (at.Joined n k) = true
is_joined _ = false

-- A fetch makes the step Read where that is allowed. Who has made or joined the segment reads and keeps its phase.
abbrev pub read_change : Option ServiceView → Change
read_change None = nothing
read_change (Some x) = view_becomes x

abbrev pub has_lock : ℕ → Phase → Bool
has_lock n (at.Locked m) = m == n
has_lock n _ = false

abbrev pub has_made : ℕ → Phase → Bool
has_made n (at.Made m) = m == n
has_made n _ = false

-- a test that is needed, with the refusal where it fails, and what is tested after it
abbrev pub need : {E : Type 0} → Bool → E → Option E → Option E
need b e rest = if b then rest else Some e

-- there is a number left for the ticket, and then what is tested after it
abbrev pub number_refusal : ℕ → Option OpenSegmentError → Option OpenSegmentError
number_refusal c rest = need (nat_lt c last_number) Opening.OutOfNumbers rest

-- why a segment of this number isn't opened, by the phase
abbrev pub join_refusal : ℕ → Segment → ℕ → Phase → Option OpenSegmentError
join_refusal n x c (at.Read m) =
    need (m == n) Opening.Failed (need (has_room n x) Opening.Full (number_refusal c None))
join_refusal n x c (at.Joined m k) =
    need (m == n) Opening.Failed (number_refusal c (need (nat_lt k last_number) Opening.Failed None))
join_refusal n x c _ = Some Opening.Failed

abbrev pub segment_refusal : ℕ → Segment → ℕ → Phase → Option OpenSegmentError
segment_refusal n x c f =
    need (x.number == n) Opening.Failed (if x.marked then Some Opening.Marked else join_refusal n x c f)

abbrev pub open_refusal : ℕ → Option Segment → ℕ → Phase → Option OpenSegmentError
open_refusal n None c f = Some Opening.DoesNotExist
open_refusal n (Some x) c f = segment_refusal n x c f

-- by the phase that a leaving node comes to
abbrev pub release_answer : Phase → Released
release_answer (at.Joined n k) = Leaving.StillCounted
release_answer (at.Leaving n) = Leaving.Last
release_answer _ = Leaving.Left

module _ (i : ℕ) (h : ServiceHash) where
  abbrev pub own_step : Act → ServiceView → Option ServiceView
  own_step a x = view_after (Node i) h a x.phase x.row x.segment x.counter

  abbrev pub with_ticket : Tickets → ℕ → ℕ → Tickets
  with_ticket k t n = map.insert k t (record { node = i; hash = h; number = n })

  -- it is this node's ticket for this service and number
  abbrev pub is_ticket : ℕ → Option Ticket → Bool
  is_ticket n None = false
  is_ticket n (Some t) = t.node == i && eq_by_cmp hash_cmp t.hash h && t.number == n

  abbrev pub fetch_of : ServiceView → Option Row → Result ((ℕ × List ℕ) × Change) FetchError
  fetch_of x None = Err Fetching.DoesNotExist
  fetch_of x (Some (row.Locked n)) = Err Fetching.NotFinalized
  fetch_of x (Some (row.Published n b)) = Ok ((n, b), read_change (own_step act.Read x))

  -- out of memory only where the tag wasn't there
  abbrev pub MakesTag : Bool → Result Tag TagError → Change → Type 0
  MakesTag true r c = (r ≡ Ok Found) × (c ≡ nothing)
  MakesTag false r c = IsAnswer Tagging.OutOfMemory (Ok (Made, tag_becomes true)) r c

  abbrev pub lock_of : ServiceView → Option Row → Result (ℕ × Change) LockError
  lock_of x (Some (row.Locked n)) = Err Locking.Creation
  lock_of x (Some (row.Published n b)) = Err Locking.AlreadyExists
  lock_of x None = or_refused Locking.Other x.counter (own_step act.Lock x)

  abbrev pub make_of : ℕ → ServiceView → Option Segment → Result (Unit {0} × Change) MakeSegmentError
  make_of m x (Some s) = Err Making.AlreadyExists
  make_of m x None = or_refused Making.Other tt (own_step (act.Make m) x)

  -- the ticket is the number
  abbrev pub publishing_of : ℕ → Tickets → Option ServiceView → Result (ℕ × Change) PublishError
  publishing_of n k None = Err Publishing.Other
  publishing_of n k (Some x) = Ok (n, view_becomes_with x (with_ticket k n n))

  abbrev pub opening_of : ℕ → NodeView → Option OpenSegmentError → Option ServiceView
      → Result (ℕ × Change) OpenSegmentError
  opening_of n s (Some e) x = Err e
  opening_of n s None None = Err Opening.Failed
  opening_of n s None (Some x) =
      let ticket = s.view.counter in
      Ok (ticket, view_becomes_with (record x { counter = ticket + 1 }) (with_ticket s.tickets ticket n))

  abbrev pub release_of : ℕ → Tickets → Option ServiceView → Result (Released × Change) ReleaseError
  release_of t k None = Err NoSuchTicket
  release_of t k (Some x) = Ok (release_answer x.phase, view_becomes_with x (map.remove k t))

  -- what each access answers and changes: its own tests, and then the step
  abbrev pub make_answer : NodeView → ℕ → ℕ → Result (Unit {0} × Change) MakeSegmentError
  make_answer s n m =
      if has_lock n s.view.phase && nat_lt 0 m then make_of m s.view s.view.segment else Err Making.Other

  abbrev pub remove_answer : NodeView → Act → Result (Unit {0} × Change) RemoveError
  remove_answer s a = or_refused Removing.Other tt (own_step a s.view)

  abbrev pub publish_answer : NodeView → ℕ → Description → Result (ℕ × Change) PublishError
  publish_answer s n d =
      if has_made n s.view.phase then publishing_of n s.tickets (own_step (act.Publish d) s.view)
      else Err Publishing.Other

  abbrev pub open_answer : NodeView → ℕ → Result (ℕ × Change) OpenSegmentError
  open_answer s n =
      opening_of n s (open_refusal n s.view.segment s.view.counter s.view.phase) (own_step act.Join s.view)

  abbrev pub release_with : NodeView → ℕ → ℕ → Result (Released × Change) ReleaseError
  release_with s t n =
      if is_ticket n (map.get s.tickets t) then release_of t s.tickets (own_step act.Leave s.view)
      else Err NoSuchTicket

  -- The answer of a letter, and its change.
  abbrev pub IsNodeAnswer : NodeView → Letter → Change → Type 0
  IsNodeAnswer s (letter.Exists g a) c = (a ≡ existence s.view.row) × (c ≡ nothing)
  IsNodeAnswer s (letter.Fetch j g a) c = IsAnswer Fetching.OutOfMemory (fetch_of s.view s.view.row) a c
  IsNodeAnswer s (letter.Counts j g a) c = (a ≡ is_joined s.view.phase) × (c ≡ nothing)
  IsNodeAnswer s (letter.MakeTag j g a) c = MakesTag s.tag a c
  IsNodeAnswer s (letter.RemoveTag j g a) c = (a ≡ Ok tt) × (c ≡ tag_becomes false)
  IsNodeAnswer s (letter.Lock j g a) c = IsAnswer Locking.OutOfMemory (lock_of s.view s.view.row) a c
  IsNodeAnswer s (letter.MakeSegment j g n m a) c = IsAnswer Making.OutOfMemory (make_answer s n m) a c
  IsNodeAnswer s (letter.RemoveSegment j g a) c = IsSureAnswer (remove_answer s act.RemoveSegment) a c
  IsNodeAnswer s (letter.RemoveDescription j g a) c = IsSureAnswer (remove_answer s act.RemoveDescription) a c
  IsNodeAnswer s (letter.Publish j g n d a) c =
      OnOk a (IsDescription d) × IsAnswer Publishing.OutOfMemory (publish_answer s n d) a c
  IsNodeAnswer s (letter.OpenSegment j g n a) c = IsAnswer Opening.OutOfMemory (open_answer s n) a c
  IsNodeAnswer s (letter.Release t j g n a) c = IsSureAnswer (release_with s t n) a c

-- The node's own part of an access, in the world.
pub record IsOwnPart (w : World) (l : Letter) (v : World) : Type 0 where
  pub change : Change
  pub own : IsNodeAnswer (acting_node l) (service_of l) (node_view w (acting_node l) (service_of l)) l change
  pub is : v ≡ write w (acting_node l) (service_of l) change
