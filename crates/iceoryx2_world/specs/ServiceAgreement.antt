-- What is always true of a world at each service, and when a world is later than another.
use Rattle.std.specs.Prelude.{◌≡◌, ◌≢◌, ℕ, ◌<◌, ◌≤◌, true, false, List, Option, Some, None}
use Rattle.iceoryx2_description.specs.declared.description.ServiceHash.{ServiceHash}
use Rattle.iceoryx2_description.specs.Description.{Description, max_nodes_of}
use Rattle.iceoryx2_data.specs.Form.{IsForm}
use Rattle.iceoryx2_world.specs.Sets as set
use Rattle.iceoryx2_world.specs.declared.world.Participant.{Participant}
use Rattle.iceoryx2_world.specs.declared.world.Phase.{Phase}
use Rattle.iceoryx2_world.specs.declared.world.Phase.TheVariants as at
use Rattle.iceoryx2_world.specs.declared.world.Row.{Row}
use Rattle.iceoryx2_world.specs.declared.world.Row.TheVariants as row
use Rattle.iceoryx2_world.specs.World.{World, Segment, row_of, segment_of, phase_of}
use Rattle.iceoryx2_world.specs.World.{locked_number, phase_number, row_number, is_last}
use Rattle.iceoryx2_world.specs.Steps.{new_segment}

abbrev pub IsPublished : ℕ → Option Row → Type 0
IsPublished n r = (b : List ℕ) × (r ≡ Some (row.Published n b))

-- An unmarked segment of this number is there, and the participant in it.
pub record HasMember (s : Option Segment) (n : ℕ) (p : Participant) : Type 0 where
  pub segment : Segment
  pub there : s ≡ Some segment
  pub number : segment.number ≡ n
  pub unmarked : segment.marked ≡ false
  pub member : set.contains segment.participants p ≡ true

-- A marked segment of this number is there, and nobody in it.
pub record IsDeserted (s : Option Segment) (n : ℕ) : Type 0 where
  pub segment : Segment
  pub there : s ≡ Some segment
  pub number : segment.number ≡ n
  pub marked : segment.marked ≡ true
  pub nobody : segment.participants ≡ set.empty

-- The segment beside a description that is published under this number: it is for as many nodes,
-- has at most so many participants, and each of them is registered.
pub record IsSegmentOf (d : Description) (n : ℕ) (phase : Participant → Phase) (x : Segment) : Type 0 where
  pub number : x.number ≡ n
  pub capacity : x.capacity ≡ max_nodes_of d.pattern
  pub few : set.len x.participants ≤ max_nodes_of d.pattern
  pub members : (p : Participant) → set.contains x.participants p ≡ true
      → (k : ℕ) × (phase p ≡ at.Joined n k)

-- The bytes are the byte form of a description of this service, and a segment beside them is its.
pub record Describes (h : ServiceHash) (n : ℕ) (b : List ℕ) (s : Option Segment) (phase : Participant → Phase)
    : Type 0 where
  pub description : Description
  pub form : IsForm description b
  pub hash : description.hash ≡ h
  pub segment : (x : Segment) → s ≡ Some x → IsSegmentOf description n phase x

-- What is true at one service: of its row, its segment and where the participants are with it, with the counter.
pub record AgreesAt (c : ℕ) (h : ServiceHash) (r : Option Row) (s : Option Segment) (phase : Participant → Phase)
    : Type 0 where
  -- every number is below the counter
  pub row_below : (x : Row) → r ≡ Some x → row_number x < c
  pub segment_below : (x : Segment) → s ≡ Some x → x.number < c
  pub phase_below : (p : Participant) (n : ℕ) → phase_number (phase p) ≡ Some n → n < c
  -- the row is Locked n exactly where somebody holds the lock of n, and at most one holds a lock
  pub locked : (p : Participant) (n : ℕ) → locked_number (phase p) ≡ Some n → r ≡ Some (row.Locked n)
  pub holder : (n : ℕ) → r ≡ Some (row.Locked n) → (p : Participant) × (locked_number (phase p) ≡ Some n)
  pub one_holder : (p q : Participant) (m n : ℕ)
      → locked_number (phase p) ≡ Some m → locked_number (phase q) ≡ Some n → p ≡ q
  -- who is Made n has an unmarked segment of that number with room for one or more, alone in it
  pub made : (p : Participant) (n : ℕ) → phase p ≡ at.Made n
      → (m : ℕ) × (1 ≤ m) × (s ≡ Some (new_segment p n m))
  -- who is Joined n has joined once or more, and its service stands
  pub joined : (p : Participant) (n k : ℕ) → phase p ≡ at.Joined n k
      → (1 ≤ k) × IsPublished n r × HasMember s n p
  -- who was the last to leave finds what it has to remove, and nobody else has
  pub leaving : (p : Participant) (n : ℕ) → phase p ≡ at.Leaving n → IsPublished n r × IsDeserted s n
  pub cleared : (p : Participant) (n : ℕ) → phase p ≡ at.Cleared n → IsPublished n r × (s ≡ None)
  pub one_last : (p q : Participant) → is_last (phase p) ≡ true → is_last (phase q) ≡ true → p ≡ q
  -- who has read n: n isn't a lock's number, and an unmarked segment of it stands only beside its description
  pub read_row : (p : Participant) (n : ℕ) → phase p ≡ at.Read n → r ≢ Some (row.Locked n)
  pub read_segment : (p : Participant) (n : ℕ) (x : Segment)
      → phase p ≡ at.Read n → s ≡ Some x → x.number ≡ n → x.marked ≡ false → IsPublished n r
  -- what is published is a description of this service, and the segment beside it is its
  pub published : (n : ℕ) (b : List ℕ) → r ≡ Some (row.Published n b) → Describes h n b s phase

-- each service by itself
abbrev pub AgreesEverywhere : World → Type 0
AgreesEverywhere w = (h : ServiceHash) → AgreesAt w.counter h (row_of w h) (segment_of w h) (λ p. phase_of w p h)

-- A later row of the same service: no number from before comes anew, what was published isn't locked again,
-- and its bytes stay.
pub record LaterAt (c : ℕ) (old new : Option Row) : Type 0 where
  pub no_new : (x : Row) → new ≡ Some x → row_number x < c
      → (y : Row) × (old ≡ Some y) × (row_number y ≡ row_number x)
  pub not_relocked : (n : ℕ) → IsPublished n old → new ≢ Some (row.Locked n)
  pub same_bytes : (n : ℕ) (a b : List ℕ) → old ≡ Some (row.Published n a)
      → new ≡ Some (row.Published n b) → a ≡ b

-- A later world: numbers go on, and each row is a later one.
pub record Later (old new : World) : Type 0 where
  pub counter : old.counter ≤ new.counter
  pub rows : (h : ServiceHash) → LaterAt old.counter (row_of old h) (row_of new h)

-- A number that is spent at a service: it is below the counter, and neither the row's nor the segment's.
pub record IsSpent (w : World) (h : ServiceHash) (n : ℕ) : Type 0 where
  pub below : n < w.counter
  pub row : (x : Row) → row_of w h ≡ Some x → row_number x ≢ n
  pub segment : (x : Segment) → segment_of w h ≡ Some x → x.number ≢ n
