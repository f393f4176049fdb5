-- The tests of the fourteen steps as code makes them, by what the participant is at and what it does. The steps
-- themselves are read in StepCases.
use Rattle.std.specs.Prelude.{ℕ, ◌+◌, ◌-◌, ◌^◌, Bool, true, false, not, ◌&&◌, nat_lt, ◌==◌}
use Rattle.std.specs.Prelude.{Option, Some, None, if◌then◌else◌}
use Rattle.std.specs.Option.{option_map}
use Rattle.iceoryx2_world.specs.Sets as set
use Rattle.std.specs.Ordering.{eq_by_cmp}
use Rattle.iceoryx2_world.specs.declared.world.Participant.{Participant}
use Rattle.iceoryx2_description.specs.declared.description.ServiceHash.{ServiceHash}
use Rattle.iceoryx2_world.specs.declared.world.Phase.{Phase}
use Rattle.iceoryx2_world.specs.declared.world.Phase.TheVariants as at
use Rattle.iceoryx2_world.specs.Orders.{hash_cmp, participant_cmp}
use Rattle.iceoryx2_world.specs.declared.world.Row.{Row}
use Rattle.iceoryx2_world.specs.declared.world.Row.TheVariants as row
use Rattle.iceoryx2_world.specs.World.{World, Segment, row_of, segment_of, phase_of, set_to, unless_idle}
use Rattle.iceoryx2_description.specs.Description.{Description, max_nodes_of}
use Rattle.iceoryx2_data.specs.Form as form
use Rattle.iceoryx2_world.specs.Acts.{Act, Read, Lock, RemoveSegment, RemoveDescription, Make, Publish, Join, Leave}

-- what a step of one participant at one hash reads and changes
pub record ServiceView : Type 0 where
  pub phase : Phase
  pub row : Option Row
  pub segment : Option Segment
  pub counter : ℕ

abbrev pub to_view : Phase → Option Row → Option Segment → ℕ → Option ServiceView
to_view x r s c = Some (record { phase = x; row = r; segment = s; counter = c })

abbrev pub alone : Participant → set.FinSet participant_cmp
alone p = set.insert set.empty p

abbrev pub last_number : ℕ
last_number = 2 ^ 64 - 1

-- a segment that p alone made
abbrev pub new_segment : Participant → ℕ → ℕ → Segment
new_segment p n m = record { number = n; capacity = m; participants = alone p; marked = false }

-- the segment with one more participant, with one less, and as the last one leaves it
abbrev pub with_one : Participant → Segment → Segment
with_one p s = record s { participants = set.insert s.participants p }

abbrev pub without_one : Participant → Segment → Segment
without_one p s = record s { participants = set.remove s.participants p }

abbrev pub without_any : Segment → Segment
without_any s = record s { participants = set.empty; marked = true }

-- the segment takes one more with this number
abbrev pub has_room : ℕ → Segment → Bool
has_room n s = s.number == n && not s.marked && nat_lt (set.len s.participants) s.capacity

-- somebody would stay in it
abbrev pub has_others : Segment → Bool
has_others s = nat_lt 1 (set.len s.participants)

-- it describes this service, for as many nodes as the segment takes
abbrev pub fits : ServiceHash → Segment → Description → Bool
fits h s d = eq_by_cmp hash_cmp d.hash h && max_nodes_of d.pattern == s.capacity

-- what is published of a description
abbrev pub row_for : ℕ → Description → Row
row_for n d = row.Published n (form.description d)

-- who has joined once leaves: others stay in the segment, or it is marked
abbrev pub leave_of : Participant → ℕ → Option Row → Option Segment → ℕ → Option ServiceView
leave_of p n r None c = None
leave_of p n r (Some s) c =
    if has_others s then to_view at.Idle r (Some (without_one p s)) c
    else to_view (at.Leaving n) r (Some (without_any s)) c

-- What a step of p at h changes, of its phase, the row, the segment and the counter there; none where it is forbidden.
abbrev pub view_after : Participant → ServiceHash → Act → Phase → Option Row → Option Segment → ℕ
    → Option ServiceView
view_after p h Read at.Idle (Some (row.Published n b)) s c = to_view (at.Read n) (Some (row.Published n b)) s c
view_after p h Read (at.Read m) (Some (row.Published n b)) s c = to_view (at.Read n) (Some (row.Published n b)) s c
view_after p h Lock at.Idle None s c =
    if nat_lt c last_number then to_view (at.Locked c) (Some (row.Locked c)) s (c + 1) else None
view_after p h Lock (at.Read m) None s c =
    if nat_lt c last_number then to_view (at.Locked c) (Some (row.Locked c)) s (c + 1) else None
view_after p h RemoveSegment (at.Locked n) r s c = to_view (at.Locked n) r None c
view_after p h (Make m) (at.Locked n) r None c =
    if nat_lt 0 m then to_view (at.Made n) r (Some (new_segment p n m)) c else None
view_after p h RemoveSegment (at.Made n) r s c = to_view (at.Locked n) r None c
view_after p h RemoveDescription (at.Locked n) r s c = to_view at.Idle None s c
view_after p h RemoveDescription (at.Made n) r s c = to_view at.Idle None s c
view_after p h (Publish d) (at.Made n) r (Some s) c =
    if fits h s d then to_view (at.Joined n 1) (Some (row_for n d)) (Some s) c else None
view_after p h Join (at.Read n) r (Some s) c =
    if has_room n s then to_view (at.Joined n 1) r (Some (with_one p s)) c else None
view_after p h Join (at.Joined n k) r s c = if nat_lt k last_number then to_view (at.Joined n (k + 1)) r s c else None
view_after p h Leave (at.Joined n k) r s c =
    if nat_lt 1 k then to_view (at.Joined n (k - 1)) r s c else if k == 1 then leave_of p n r s c else None
view_after p h RemoveSegment (at.Leaving n) r s c = to_view (at.Cleared n) r None c
view_after p h RemoveDescription (at.Leaving n) r s c = to_view at.Idle None s c
view_after p h RemoveDescription (at.Cleared n) r s c = to_view at.Idle None s c
view_after p h _ _ _ _ _ = None

-- the world with this view of one participant at one service
abbrev pub put : World → Participant → ServiceHash → ServiceView → World
put w p h s = record w {
  rows = set_to w.rows h s.row;
  segments = set_to w.segments h s.segment;
  phases = set_to w.phases (p, h) (unless_idle s.phase);
  counter = s.counter;
}

-- the world after a step; none where it is forbidden
abbrev pub world_after : World → Participant → ServiceHash → Act → Option World
world_after w p h act =
    option_map (put w p h) (view_after p h act (phase_of w p h) (row_of w h) (segment_of w h) w.counter)
