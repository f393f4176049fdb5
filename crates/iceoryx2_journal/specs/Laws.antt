-- What holds of every run of a journal over any log, whatever stands in it: each law for its clause and its lemma.
use Rattle.std.specs.Prelude.{◌≡◌, ◌⊎◌, ℕ, true, false, List, Option}
use Rattle.iceoryx2_access.specs.Letter.{Letter}
use Rattle.iceoryx2_access.specs.MayRefuse.{IsFault, MayRefuse}
use Rattle.iceoryx2_access.specs.Run.{Run, Each}
use Rattle.iceoryx2_world.specs.World.{World}
use Rattle.iceoryx2_world.specs.Access.{IsOwnPart}
use Rattle.iceoryx2_world.specs.Interference.{Others, After, IsFallibleUnder}
use Rattle.iceoryx2_log.specs.declared.entry.Entry.{Entry}
use Rattle.iceoryx2_log.specs.Log.{Contents, WhereKnown}
use Rattle.iceoryx2_journal.specs.Taking.{is_own, IsAllTaken}
use Rattle.iceoryx2_journal.specs.Journal.{JournalState, IsJournalAccess, is_mine}
use Rattle.iceoryx2_journal.specs.Replay.{ComesTo, Replays, Keeps, HasTaken, AmountsTo}
use Rattle.iceoryx2_table.specs.Same.{IsSameButRead}

-- What worlds come to by the same entries is the same, but for who has only read, where the worlds were.
abbrev pub OneWorldEach : Type 0
OneWorldEach = (u v w x : World) (es : List Entry) → IsSameButRead u v → ComesTo u es w → ComesTo v es x
    → IsSameButRead w x

module _ {L : Type 0} (contents : L → Option Contents) where
  -- It is accesses of own nodes in its world, of which any may be refused, each after what others do.
  abbrev pub GoesAmongOthers : Type 0
  GoesAmongOthers = (a b : JournalState L) (word : List Letter) → Run (IsJournalAccess contents) a word b
      → Run (After (Others (is_own a.nodes)) (MayRefuse IsOwnPart)) a.world word b.world

  -- So it is accesses under interference.
  abbrev pub GoesUnderInterference : Type 0
  GoesUnderInterference = (a b : JournalState L) (word : List Letter) → Run (IsJournalAccess contents) a word b
      → Run (IsFallibleUnder (is_own a.nodes)) a.world word b.world

  -- The own nodes stay.
  abbrev pub KeepsItsNodes : Type 0
  KeepsItsNodes = (a b : JournalState L) (word : List Letter) → Run (IsJournalAccess contents) a word b
      → b.nodes ≡ a.nodes

  -- An access of a node that isn't own is its general fault, and nothing changes.
  abbrev pub RefusesOtherNodes : Type 0
  RefusesOtherNodes = (a b : JournalState L) (l : Letter) → is_mine a.nodes l ≡ false
      → IsJournalAccess contents a l b → IsFault l × (b ≡ a)

  -- Once it is over each access is its general fault, and nothing changes.
  abbrev pub StaysOver : Type 0
  StaysOver = (a b : JournalState L) (word : List Letter) → a.is_over ≡ true
      → Run (IsJournalAccess contents) a word b → Each IsFault word × (b ≡ a)

  -- Where the log's entries are known an access is its general fault, or leaves none of them unread.
  abbrev pub LeavesNothingUnread : Type 0
  LeavesNothingUnread = (a b : JournalState L) (l : Letter) → IsJournalAccess contents a l b
      → IsFault l ⊎ IsAllTaken (contents b.log)

  -- Where they are known, no entry goes or changes its place, and what is appended comes after all of them; or the log
  -- goes on in another place, where what stands begins with a snapshot.
  abbrev pub KeepsTheLog : Type 0
  KeepsTheLog = (a b : JournalState L) (word : List Letter) → Run (IsJournalAccess contents) a word b
      → WhereKnown (Keeps a.is_lost b.is_lost) (contents a.log) (contents b.log)

  -- Until it is over its world is what the entries make of the one before that it has taken over or appended since.
  abbrev pub ReplaysTheLog : Type 0
  ReplaysTheLog = (a b : JournalState L) (word : List Letter) → b.is_over ≡ false
      → Run (IsJournalAccess contents) a word b → Replays contents a b

  -- So from nothing it is what the entries come to that it has taken over or appended, in whichever place.
  abbrev pub IsWhatTheLogComesTo : Type 0
  IsWhatTheLogComesTo = (counter : ℕ) (es : List Entry) (b : JournalState L) → HasTaken contents counter es b
      → AmountsTo counter es b.world

  -- Two journals that have the same entries show the same world, but for who has only read.
  abbrev pub ShowsOneWorld : Type 0
  ShowsOneWorld = (counter : ℕ) (es : List Entry) (b c : JournalState L) → HasTaken contents counter es b
      → HasTaken contents counter es c → IsSameButRead b.world c.world
