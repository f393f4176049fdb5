-- What lines, changes and silence show of an entry.
use Rattle.std.specs.Prelude.{◌≡◌, ◌<◌, ◌≤◌, ◌+◌, ◌^◌, ◌-◌, ℕ, Bool, true, false, List, [], Option, Some, None, min}
use Rattle.iceoryx2_log.specs.declared.entry.Entry.{Entry}
use Rattle.iceoryx2_journal.specs.Follow.{IsFollowed}
use Rattle.wulameron_trail.specs.declared.changes.Change.{Change}
use Rattle.wulameron_trail.specs.declared.showing.Lines.{Lines}
use Rattle.wulameron_trail.specs.declared.showing.Changes.{Changes}
use Rattle.wulameron_trail.specs.declared.showing.Silence.{Silence}
use Rattle.wulameron_trail.specs.Changes.{IsChangeOf, change_line, json_line}
use Rattle.wulameron_trail.specs.EntryTexts.{AddsEntryLine}

-- ---- lines

-- Each entry has its line, but for those with smaller numbers than the first that is wanted. The next has the next
-- number, up to the greatest of 64 bits.
pub record ShowsLine (old : Lines) (e : Entry) (line : List ℕ) (new : Lines) : Type 0 where
  pub left_out : old.place < old.from → line ≡ []
  pub line_is : old.from ≤ old.place → AddsEntryLine old.place e [] line
  pub next : new ≡ record old { place = min (old.place + 1) (2 ^ 64 - 1) }

-- ---- changes

-- the line of a change, for programs or for people
abbrev pub shown_change : (json : Bool) → Option Change → List ℕ
shown_change json None = []
shown_change true (Some c) = json_line c
shown_change false (Some c) = change_line c

-- The entry is followed, and the line is of what it changes; there is none where it changes nothing.
pub record ShowsChange (old : Changes) (e : Entry) (line : List ℕ) (new : Changes) : Type 0 where
  pub followed : IsFollowed old.world e new.world
  pub change : Option Change
  pub changes : IsChangeOf old.world e new.world change
  pub line_is : line ≡ shown_change old.is_json change
  pub same : new.is_json ≡ old.is_json

-- The entry is followed, and nothing is shown.
pub record FollowsSilently (old : Silence) (e : Entry) (line : List ℕ) (new : Silence) : Type 0 where
  pub followed : IsFollowed old.world e new.world
  pub line_is : line ≡ []
