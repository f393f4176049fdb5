-- Which nodes are cleaned up for, and what a journal's log comes to.
use Rattle.std.specs.Prelude.{◌≡◌, ℕ, true, List, [], ◌∷◌, ◌++◌, Option, Some, None, codes, decimal}
use Rattle.iceoryx2_world.specs.World.{World}
use Rattle.iceoryx2_log.specs.Log.{Contents}
use Rattle.iceoryx2_journal.specs.Journal.{JournalState}
use Rattle.wulameron_place.specs.Reading.{TakesOver}

-- It is the world of the journal once all that others appended is taken over, with nothing appended.
abbrev pub ComesToWorld : {L : Type 0} → (L → Option Contents) → JournalState L → World → Type 0
ComesToWorld {L} contents journal w = (last : JournalState L) × TakesOver contents true journal last × (w ≡ last.world)

-- Only the one that is named, if there is one.
abbrev pub AreWanted : (named : Option ℕ) → (nodes : List ℕ) → Type 0
AreWanted None nodes = Unit {0}
AreWanted (Some node) nodes = nodes ≡ node ∷ []

abbrev pub uncleaned_text : ℕ → List ℕ
uncleaned_text node =
    codes "node " ++ decimal node
    ++ codes " keeps what it has, as its claim or the log refused; run `clean` again"
