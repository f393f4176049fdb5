-- An own part of a node, with what it makes of a log.
use Rattle.std.specs.Prelude.{◌≡◌, true, false, Option}
use Rattle.iceoryx2_access.specs.Letter.{Letter}
use Rattle.iceoryx2_access.specs.Letter as letter
use Rattle.iceoryx2_access.specs.MayRefuse.{IsFault}
use Rattle.iceoryx2_world.specs.World.{World}
use Rattle.iceoryx2_world.specs.Access.{IsOwnPart}
use Rattle.iceoryx2_table.specs.Recorded.{is_written}
use Rattle.iceoryx2_log.specs.declared.entry.Entry.{Entry}
use Rattle.iceoryx2_log.specs.Log.{Contents, WhereKnown, Appends}
use Rattle.iceoryx2_journal.specs.Follow.{IsEntryOf}

-- Nothing changes, but that a node that fetches may have read then.
abbrev pub ReadsAtMost : Letter → World → World → Type 0
ReadsAtMost (letter.Fetch i h a) w v = Unit {0}
ReadsAtMost l w v = v ≡ w

module _ {L : Type 0} (contents : L → Option Contents) where
  -- An own part, between two states of the log: the log has its entry exactly where it changes what others see.
  pub data IsLoggedPart (w : World) (l : Letter) (v : World) (before after : L) : Type 0 where
    -- nobody has to know of it: it is no entry
    unwritten : is_written w l ≡ false → IsOwnPart w l v → ReadsAtMost l w v → contents after ≡ contents before
        → IsLoggedPart w l v before after
    -- its entry is the last one now
    written : (e : Entry) → is_written w l ≡ true → IsOwnPart w l v → IsEntryOf e l
        → WhereKnown (Appends e) (contents before) (contents after) → IsLoggedPart w l v before after
    -- it is refused: the general fault, and nothing changes
    declined : IsFault l → v ≡ w → contents after ≡ contents before → IsLoggedPart w l v before after
