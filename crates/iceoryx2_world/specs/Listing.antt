-- What a table lists of its world.
use Rattle.std.specs.Prelude.{◌≡◌, List, Option, Some, None, T, map}
use Rattle.std.specs.Option.{option_map}
use Rattle.std.specs.FinMap as finite
use Rattle.std.specs.FinMap.Entries.{find, is_sorted}
use Rattle.iceoryx2_description.specs.declared.description.ServiceHash.{ServiceHash}
use Rattle.iceoryx2_world.specs.declared.world.Row.{Row}
use Rattle.iceoryx2_world.specs.declared.world.Row.TheVariants as row
use Rattle.iceoryx2_world.specs.declared.listing.ListedRow.{ListedRow}
use Rattle.iceoryx2_world.specs.declared.listing.ListedRow.TheVariants as listed
use Rattle.iceoryx2_world.specs.declared.listing.ListedSegment.{ListedSegment}
use Rattle.iceoryx2_world.specs.declared.listing.Entry.{Entry}
use Rattle.iceoryx2_world.specs.Sets as set
use Rattle.iceoryx2_world.specs.Orders.{hash_cmp}
use Rattle.iceoryx2_world.specs.World.{World, Segment}

abbrev pub listed_row : Option Row → ListedRow
listed_row None = listed.Absent
listed_row (Some (row.Locked n)) = listed.Locked n
listed_row (Some (row.Published n b)) = listed.Published n b

abbrev pub listed_segment : Segment → ListedSegment
listed_segment s = record {
  number = s.number;
  max_nodes = s.capacity;
  participants = set.len s.participants;
  marked = s.marked;
}

-- what is listed of a row and a segment; nothing where there is neither
abbrev pub entry_of : ServiceHash → Option Row → Option Segment → Entry
entry_of h r s = record { hash = h; row = listed_row r; segment = option_map listed_segment s }

abbrev pub entry_at : ServiceHash → Option Row → Option Segment → Option Entry
entry_at h None None = None
entry_at h (Some r) s = Some (entry_of h (Some r) s)
entry_at h None (Some s) = Some (entry_of h None (Some s))

abbrev pub by_hash : List Entry → List (ServiceHash × Entry)
by_hash es = map (λ e. (e.hash, e)) es

-- Every hash with a row or a segment is listed once, in ascending order, with what stands there, and no other hash.
pub record ListsAll (rows : finite.FinMap hash_cmp Row) (segments : finite.FinMap hash_cmp Segment)
    (es : List Entry) : Type 0 where
  pub ascends : T (is_sorted hash_cmp (by_hash es))
  pub each : (h : ServiceHash)
      → find hash_cmp h (by_hash es) ≡ entry_at h (finite.get rows h) (finite.get segments h)

abbrev pub Lists : World → List Entry → Type 0
Lists w es = ListsAll w.rows w.segments es
