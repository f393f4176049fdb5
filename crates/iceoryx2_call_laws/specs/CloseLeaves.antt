-- What a close leaves in the world, by the answers of its word.
use Rattle.std.specs.Prelude.{◌≡◌, ◌-◌, ◌<◌, ℕ, Bool, List, [], ◌∷◌, Option, None, Result, Ok, Err}
use Rattle.std.specs.FinMap as map
use Rattle.iceoryx2_description.specs.declared.description.ServiceHash.{ServiceHash}
use Rattle.iceoryx2_access.specs.declared.storage.RemoveError.{RemoveError}
use Rattle.iceoryx2_access.specs.declared.storage.Release.TheVariants as leave
use Rattle.iceoryx2_access.specs.Letter.{Letter, RemoveTag, RemoveSegment, RemoveDescription}
use Rattle.iceoryx2_access.specs.Registered.{Registered}
use Rattle.iceoryx2_world.specs.Sets as set
use Rattle.iceoryx2_world.specs.declared.world.Participant.TheVariants.{Node}
use Rattle.iceoryx2_world.specs.declared.world.Phase.{Phase}
use Rattle.iceoryx2_world.specs.declared.world.Phase.TheVariants as at
use Rattle.iceoryx2_world.specs.declared.world.Row.{Row}
use Rattle.iceoryx2_world.specs.Orders.{tag_cmp}
use Rattle.iceoryx2_world.specs.World.{World, Segment, row_of, segment_of, phase_of}
use Rattle.iceoryx2_world.specs.Interference.{SameTickets, SameTags}
use Rattle.iceoryx2_world.specs.ServiceAgreement.{IsPublished, HasMember, IsDeserted}
use Rattle.iceoryx2_rounds.specs.Closes.{releases}

-- Each removal takes its thing away, unless it is refused; then the thing stays: the tag,
abbrev pub tags_without : Result (Unit {0}) RemoveError → set.FinSet tag_cmp → ℕ × ServiceHash
    → set.FinSet tag_cmp
tags_without (Ok a) tags own = set.remove tags own
tags_without (Err e) tags own = tags

-- the segment of this number, marked and with nobody in it,
abbrev pub SegmentAfter : Result (Unit {0}) RemoveError → ℕ → Option Segment → Type 0
SegmentAfter (Ok a) n s = s ≡ None
SegmentAfter (Err e) n s = IsDeserted s n

-- and the description that was published under the number.
abbrev pub RowAfter : Result (Unit {0}) RemoveError → ℕ → (old new : Option Row) → Type 0
RowAfter (Ok a) n old new = new ≡ None
RowAfter (Err e) n old new = IsPublished n new × (new ≡ old)

-- The last node has still to remove what stays.
abbrev pub last_phase : (segment : Result (Unit {0}) RemoveError) → ℕ → Phase
last_phase (Ok a) n = at.Cleared n
last_phase (Err e) n = at.Leaving n

abbrev pub phase_after : (segment description : Result (Unit {0}) RemoveError) → ℕ → Phase
phase_after segment (Ok a) n = at.Idle
phase_after segment (Err e) n = last_phase segment n

module _ (own : ℕ → Bool) (r : Registered) (w v : World) where
  abbrev node : ℕ
  node = r.node

  abbrev hash : ServiceHash
  hash = r.description.hash

  -- The node is still counted, once less: beside that and the ticket nothing of its own changed.
  pub record CountsLess : Type 0 where
    pub tickets : SameTickets own (map.remove w.tickets r.ticket) v.tickets
    pub tags : SameTags own w.tags v.tags
    pub count : ℕ
    pub more : 1 < count
    pub before : phase_of w (Node node) hash ≡ at.Joined r.number count
    pub after : phase_of v (Node node) hash ≡ at.Joined r.number (count - 1)
    pub row : row_of v hash ≡ row_of w hash
    pub member : HasMember (segment_of v hash) r.number (Node node)

  -- The node has left, and others stay.
  pub record LeavesOthers (tag : Result (Unit {0}) RemoveError) : Type 0 where
    pub tickets : SameTickets own (map.remove w.tickets r.ticket) v.tickets
    pub tags : SameTags own (tags_without tag w.tags (node, hash)) v.tags
    pub phase : phase_of v (Node node) hash ≡ at.Idle

  -- It was the last one.
  pub record LeavesNobody (tag segment description : Result (Unit {0}) RemoveError) : Type 0 where
    pub tickets : SameTickets own (map.remove w.tickets r.ticket) v.tickets
    pub tags : SameTags own (tags_without tag w.tags (node, hash)) v.tags
    pub segment_after : SegmentAfter segment r.number (segment_of v hash)
    pub row : RowAfter description r.number (row_of w hash) (row_of v hash)
    pub phase : phase_of v (Node node) hash ≡ phase_after segment description r.number

  -- What a close from w to v leaves, word by word.
  pub data CloseLeaves : List Letter → Type 0 where
    counts_less : CountsLess → CloseLeaves (releases r (Ok leave.StillCounted) ∷ [])
    leaves_others : {tag : Result (Unit {0}) RemoveError} → LeavesOthers tag
        → CloseLeaves (releases r (Ok leave.Left) ∷ RemoveTag node hash tag ∷ [])
    leaves_nobody : {tag segment description : Result (Unit {0}) RemoveError}
        → LeavesNobody tag segment description
        → CloseLeaves (releases r (Ok leave.Last) ∷ RemoveTag node hash tag
        ∷ RemoveSegment node hash segment ∷ RemoveDescription node hash description ∷ [])
