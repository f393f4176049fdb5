-- The fourteen steps, a line for each: what a participant's act makes of its phase, the row, the segment and the
-- counter. Start here. That code tests just these is `laws_of_steps`, of the functions in Steps.
use Rattle.std.specs.Prelude.{◌≡◌, ℕ, ◌+◌, ◌-◌, ◌<◌, ◌≤◌, true, false, List, Option, Some, None}
use Rattle.iceoryx2_description.specs.declared.description.ServiceHash.{ServiceHash}
use Rattle.iceoryx2_description.specs.Description.{Description, max_nodes_of}
use Rattle.iceoryx2_world.specs.Sets as set
use Rattle.iceoryx2_world.specs.declared.world.Participant.{Participant}
use Rattle.iceoryx2_world.specs.declared.world.Phase.{Phase}
use Rattle.iceoryx2_world.specs.declared.world.Phase.TheVariants as at
use Rattle.iceoryx2_world.specs.declared.world.Row.{Row}
use Rattle.iceoryx2_world.specs.declared.world.Row.TheVariants as row
use Rattle.iceoryx2_world.specs.World.{Segment, begins, locked_number, is_last}
use Rattle.iceoryx2_world.specs.Acts.{Act, Read, Lock, RemoveSegment, RemoveDescription, Make, Publish, Join, Leave}
use Rattle.iceoryx2_world.specs.Steps.{ServiceView, new_segment, with_one, without_one, without_any, row_for}
use Rattle.iceoryx2_world.specs.Steps.{last_number}

abbrev view : Phase → Option Row → Option Segment → ℕ → ServiceView
view x r s c = record { phase = x; row = r; segment = s; counter = c }

-- What an act of p at h makes of its phase, the row, the segment and the counter there: one line of the table each.
pub data IsStep (p : Participant) (h : ServiceHash)
    : Act → Phase → Option Row → Option Segment → ℕ → ServiceView → Type 0 where
  reads : {x : Phase} {n c : ℕ} {b : List ℕ} {s : Option Segment} → begins x ≡ true
      → IsStep p h Read x (Some (row.Published n b)) s c (view (at.Read n) (Some (row.Published n b)) s c)
  locks : {x : Phase} {c : ℕ} {s : Option Segment} → begins x ≡ true → c < last_number
      → IsStep p h Lock x None s c (view (at.Locked c) (Some (row.Locked c)) s (c + 1))
  clears : {n c : ℕ} {r : Option Row} {s : Option Segment}
      → IsStep p h RemoveSegment (at.Locked n) r s c (view (at.Locked n) r None c)
  makes : {n m c : ℕ} {r : Option Row} → 0 < m
      → IsStep p h (Make m) (at.Locked n) r None c (view (at.Made n) r (Some (new_segment p n m)) c)
  unmakes : {n c : ℕ} {r : Option Row} {s : Option Segment}
      → IsStep p h RemoveSegment (at.Made n) r s c (view (at.Locked n) r None c)
  unlocks : {x : Phase} {n c : ℕ} {r : Option Row} {s : Option Segment} → locked_number x ≡ Some n
      → IsStep p h RemoveDescription x r s c (view at.Idle None s c)
  publishes : {n c : ℕ} {d : Description} {r : Option Row} {s : Segment}
      → d.hash ≡ h → max_nodes_of d.pattern ≡ s.capacity
      → IsStep p h (Publish d) (at.Made n) r (Some s) c (view (at.Joined n 1) (Some (row_for n d)) (Some s) c)
  joins : {n c : ℕ} {r : Option Row} {s : Segment}
      → s.number ≡ n → s.marked ≡ false → set.len s.participants < s.capacity
      → IsStep p h Join (at.Read n) r (Some s) c (view (at.Joined n 1) r (Some (with_one p s)) c)
  joins_again : {n k c : ℕ} {r : Option Row} {s : Option Segment} → k < last_number
      → IsStep p h Join (at.Joined n k) r s c (view (at.Joined n (k + 1)) r s c)
  leaves_once : {n k c : ℕ} {r : Option Row} {s : Option Segment} → 1 < k
      → IsStep p h Leave (at.Joined n k) r s c (view (at.Joined n (k - 1)) r s c)
  leaves : {n k c : ℕ} {r : Option Row} {s : Segment} → k ≡ 1 → 1 < set.len s.participants
      → IsStep p h Leave (at.Joined n k) r (Some s) c (view at.Idle r (Some (without_one p s)) c)
  leaves_last : {n k c : ℕ} {r : Option Row} {s : Segment} → k ≡ 1 → set.len s.participants ≤ 1
      → IsStep p h Leave (at.Joined n k) r (Some s) c (view (at.Leaving n) r (Some (without_any s)) c)
  clears_last : {n c : ℕ} {r : Option Row} {s : Option Segment}
      → IsStep p h RemoveSegment (at.Leaving n) r s c (view (at.Cleared n) r None c)
  ends : {x : Phase} {c : ℕ} {r : Option Row} {s : Option Segment} → is_last x ≡ true
      → IsStep p h RemoveDescription x r s c (view at.Idle None s c)
