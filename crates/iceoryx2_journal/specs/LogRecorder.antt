-- What writing an access down makes of a log.
use Rattle.std.specs.Prelude.{◌≡◌, Option, Some}
use Rattle.iceoryx2_log.specs.declared.entry.Entry.{Entry}
use Rattle.iceoryx2_log.specs.Log.{Contents, WhereKnown, Appends}
use Rattle.iceoryx2_journal.specs.declared.log_recorder.LogRecorder.{LogRecorder}

module _ {L : Type 0} (contents : L → Option Contents) where
  -- The recorder's entry is the last one of the log now.
  pub record Appended (before after : LogRecorder L) : Type 0 where
    pub entry : Entry
    pub is_next : before.entry ≡ Some entry
    pub appends : WhereKnown (Appends entry) (contents before.log) (contents after.log)

  -- The log has what it had.
  abbrev pub NotAppended : LogRecorder L → LogRecorder L → Type 0
  NotAppended before after = contents after.log ≡ contents before.log
