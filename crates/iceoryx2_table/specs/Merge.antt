-- What a table lists, as one walk over its rows and its segments.
use Rattle.std.specs.Prelude.{◌≡◌, ℕ, ◌+◌, ◌<◌, ◌≤◌, List, [], ◌∷◌, ◌++◌, length, drop, Some, None}
use Rattle.std.specs.Ordering.{match_ordering}
use Rattle.iceoryx2_description.specs.declared.description.ServiceHash.{ServiceHash}
use Rattle.iceoryx2_world.specs.declared.world.Row.{Row}
use Rattle.iceoryx2_world.specs.declared.listing.Entry.{Entry}
use Rattle.iceoryx2_world.specs.Orders.{hash_cmp}
use Rattle.iceoryx2_world.specs.World.{Segment}
use Rattle.iceoryx2_world.specs.Listing.{entry_of}

abbrev pub RowEntries : Type 0
RowEntries = List (ServiceHash × Row)

abbrev pub SegmentEntries : Type 0
SegmentEntries = List (ServiceHash × Segment)

-- the lesser hash goes first, and equal ones go together
unfoldable pub merge : RowEntries → SegmentEntries → List Entry
merge [] [] = []
merge [] (s ∷ ss) = entry_of s.0 None (Some s.1) ∷ merge [] ss
merge (r ∷ rs) [] = entry_of r.0 (Some r.1) None ∷ merge rs []
merge (r ∷ rs) (s ∷ ss) =
    match_ordering (hash_cmp r.0 s.0)
    (entry_of r.0 (Some r.1) None ∷ merge rs (s ∷ ss))
    (entry_of r.0 (Some r.1) (Some s.1) ∷ merge rs ss)
    (entry_of s.0 None (Some s.1) ∷ merge (r ∷ rs) ss)

-- so many rows and segments
abbrev pub Progress : Type 0
Progress = ℕ × ℕ

module _ (rs : RowEntries) (ss : SegmentEntries) where
  -- From where so many are listed, some more are, and what was to come has come so far.
  pub record Advances (at : Progress) (es : List Entry) (next : Progress) (fs : List Entry)
      : Type 0 where
    pub same : fs ++ merge (drop next.0 rs) (drop next.1 ss) ≡ es ++ merge (drop at.0 rs) (drop at.1 ss)
    pub rows : next.0 ≤ length rs
    pub segments : next.1 ≤ length ss
    pub more : at.0 + at.1 < next.0 + next.1
