-- How a log is read that isn't held.
use Rattle.std.specs.Prelude.{◌≡◌, ◌⊎◌, Bool, true, Option}
use Rattle.iceoryx2_journal.specs.Journal.{JournalState, Begins, Fails}
use Rattle.iceoryx2_log.specs.Log.{Contents}

-- All that others appended is taken over, or not, at the first try or after one at which not all was.
pub record TakesOver {L : Type 0} (contents : L → Option Contents) (is_all : Bool) (old new : JournalState L)
    : Type 0 where
  pub tried : JournalState L
  pub first : (tried ≡ old) ⊎ Fails contents true old tried
  pub takes : Begins contents true is_all tried new
