-- How a node starts.
use Rattle.std.specs.Prelude.{◌≡◌, ℕ, false, [], ◌∷◌, Option, Some, None}
use Rattle.iceoryx2_journal.specs.Journal.{JournalState}
use Rattle.iceoryx2_journal.specs.Replay.{Lives}
use Rattle.iceoryx2_log.specs.Log.{Contents}
use Rattle.iceoryx2_world.specs.Agreement.{Agrees}
use Rattle.iceoryx2_world.specs.World.{empty_world}
use Rattle.negotiate_serve.specs.declared.ending.ServeError.TheVariants as failure
use Rattle.wulameron_place.specs.declared.halt.Halt.{Halt}
use Rattle.wulameron_place.specs.declared.halt.Halt.TheVariants as halt
use Rattle.wulameron_place.specs.declared.trouble.Trouble.{Trouble}
use Rattle.wulameron_place.specs.Troubles.{last_of, trouble_of}

-- a journal of no node that has taken nothing over yet
abbrev pub first_journal : {L : Type 0} → L → (counter : ℕ) → JournalState L
first_journal log counter =
    record { world = empty_world counter; log = log; nodes = []; is_over = false; is_lost = false }

-- A journal of the log has this node alone, after what the node had was given back. Its world agrees, and nothing went
-- wrong at the log for the last time.
pub record IsStarted {L : Type 0} (contents : L → Option Contents) (refused : L → Option Trouble) (first : L)
    (counter node : ℕ) (journal : JournalState L) : Type 0 where
  pub lives : Lives contents (first_journal first counter) journal
  pub nodes : journal.nodes ≡ node ∷ []
  pub agrees : Agrees journal.world
  pub usable : last_of (trouble_of journal.is_over (refused journal.log)) ≡ None

-- What keeps a node from being started, by what goes wrong at the log: want of memory where nothing does.
abbrev pub HaltsBy : Option Trouble → Halt → Type 0
HaltsBy (Some t) h = h ≡ halt.Log t
HaltsBy None h = h ≡ halt.Serving failure.OutOfMemory

-- That is so at what has become of a journal of the log.
pub record IsNotStarted {L : Type 0} (contents : L → Option Contents) (refused : L → Option Trouble) (first : L)
    (counter : ℕ) (h : Halt) : Type 0 where
  pub journal : JournalState L
  pub lives : Lives contents (first_journal first counter) journal
  pub why : HaltsBy (trouble_of journal.is_over (refused journal.log)) h
