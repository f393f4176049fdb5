-- The promise over a log that processes share.
use Rattle.std.specs.Prelude.{◌≡◌, ℕ, Bool, true, List, Option}
use Rattle.iceoryx2_access.specs.Letter.{Letter}
use Rattle.iceoryx2_log.specs.Log.{Contents}
use Rattle.iceoryx2_journal.specs.Taking.{is_own}
use Rattle.iceoryx2_journal.specs.Journal.{JournalState, IsAccessOver}
use Rattle.iceoryx2_rounds.specs.BuilderCalls.{BuilderCall}
use Rattle.iceoryx2_call_laws.specs.Promise.{PromiseOver}

module _ {L : Type 0} (contents : L → Option Contents) (held : L → Bool) (nodes : List ℕ) where
  -- An access of a journal that has these own nodes.
  abbrev pub IsAccessOf : JournalState L → Letter → JournalState L → Type 0
  IsAccessOf old l new = (old.nodes ≡ nodes) × IsAccessOver contents held old l new

  -- A call in the name of one of them keeps the promise over its world, whatever stands in the log.
  abbrev pub PromiseOverLog : {D E C : Type 0} → BuilderCall D E C → Type 0
  PromiseOverLog c = is_own nodes c.caller.node ≡ true
      → PromiseOver IsAccessOf (λ j. j.world) c (is_own nodes)
