-- What the entries of a log make of a world.
use Rattle.std.specs.Prelude.{◌≡◌, ℕ, Bool, true, false, List, [], ◌∷◌, ◌++◌, Option, Some, Result}
use Rattle.iceoryx2_description.specs.declared.description.ServiceHash.{ServiceHash}
use Rattle.iceoryx2_access.specs.declared.storage.FetchError.{FetchError}
use Rattle.iceoryx2_access.specs.Letter.{Letter}
use Rattle.iceoryx2_access.specs.Letter as letter
use Rattle.iceoryx2_world.specs.World.{World, empty_world}
use Rattle.iceoryx2_world.specs.Access.{IsOwnPart}
use Rattle.iceoryx2_world.specs.Agreement.{Agrees}
use Rattle.iceoryx2_table.specs.Spending.{Spends}
use Rattle.iceoryx2_table.specs.Same.{IsSameButRead}
use Rattle.iceoryx2_log.specs.declared.entry.Operation.TheVariants as operation
use Rattle.iceoryx2_log.specs.declared.entry.Entry.{Entry}
use Rattle.iceoryx2_log.specs.Log.{Contents, WhereKnown}
use Rattle.iceoryx2_journal.specs.Follow.{IsEntryOf}
use Rattle.iceoryx2_journal.specs.Snapshot.{StandsFor}
use Rattle.iceoryx2_journal.specs.Journal.{JournalState, Begins, Resumes, IsJournalAccess, Spans}
use Rattle.iceoryx2_journal.specs.Cleaning.{Adopts, CleansBy}
use Rattle.iceoryx2_journal.specs.declared.cleaning.AdoptError.{AdoptError}

-- The entries come to this, in order: each is its node's access, granted as the entry has it, or numbers that its node
-- spends. Between them nodes may fetch, which is in no entry and changes the node's own phase alone.
pub data ComesTo : World → List Entry → World → Type 0 where
  nothing : {w : World} → ComesTo w [] w
  fetches : {w u v : World} {es : List Entry} (i : ℕ) (h : ServiceHash) (a : Result (ℕ × List ℕ) FetchError)
      → IsOwnPart w (letter.Fetch i h a) u → ComesTo u es v → ComesTo w es v
  happens : {w u v : World} {es : List Entry} (e : Entry) (l : Letter)
      → IsEntryOf e l → IsOwnPart w l u → ComesTo u es v → ComesTo w (e ∷ es) v
  spends : {w u v : World} {es : List Entry} (e : Entry) (n : ℕ)
      → e.operation ≡ operation.Spend n → Spends e.node e.hash n w u → ComesTo u es v → ComesTo w (e ∷ es) v

-- The place stays, and these were taken over or appended there, in their order.
pub record Moves (entries : List Entry) (old new : Contents) : Type 0 where
  pub begins : new.begins ≡ old.begins
  pub taken : new.taken ≡ old.taken ++ entries

-- The world is what is taken in a place: a world for which the snapshot there stands is what some of these entries make
-- of the one before, and it goes on from there by the rest, which was taken over or appended behind the snapshot.
pub record Settles (w : World) (entries : List Entry) (v : World) (new : Contents) : Type 0 where
  pub snapshot : List Entry
  pub before : List Entry
  pub since : List Entry
  pub parts : entries ≡ before ++ since
  pub taken : new.taken ≡ snapshot ++ since
  pub at : World
  pub leads : ComesTo w before at
  pub goes_on : ComesTo at since v
  pub stands_for : StandsFor new.begins snapshot at

-- What these entries are to the place, by whether the process was lost, and is.
pub data Goes (was is : Bool) (w : World) (entries : List Entry) (v : World) (old new : Contents) : Type 0 where
  stays : was ≡ false → Moves entries old new → Goes was is w entries v old new
  settles : is ≡ false → Settles w entries v new → Goes was is w entries v old new
  strays : is ≡ true → Goes was is w entries v old new

-- The world now is what these entries make of the one before, and they are what was taken over or appended since, or
-- what led to another place and was taken over or appended there.
pub record Replays {L : Type 0} (contents : L → Option Contents) (a b : JournalState L) : Type 0 where
  pub entries : List Entry
  pub comes : ComesTo a.world entries b.world
  pub taken : WhereKnown (Goes a.is_lost b.is_lost a.world entries b.world) (contents a.log) (contents b.log)

-- All that stands, taken or unread, stands on in its order, and more may stand after it.
pub record StandsOn (old new : Contents) : Type 0 where
  pub come : List Entry
  pub begins : new.begins ≡ old.begins
  pub all : new.taken ++ new.unread ≡ (old.taken ++ old.unread) ++ come

-- What stands begins with a snapshot, of whichever world.
pub record BeginsAnew (new : Contents) : Type 0 where
  pub snapshot : List Entry
  pub more : List Entry
  pub all : new.taken ++ new.unread ≡ snapshot ++ more
  pub world : World
  pub stands_for : StandsFor new.begins snapshot world

-- What becomes of all that stands, by whether the process was lost, and is.
pub data Keeps (was is : Bool) (old new : Contents) : Type 0 where
  stands : was ≡ false → StandsOn old new → Keeps was is old new
  anew : is ≡ false → BeginsAnew new → Keeps was is old new
  strays : is ≡ true → Keeps was is old new

-- What becomes of a journal: its accesses, what it takes over besides, what it gives back for nodes that are dead,
-- nodes that become own ones, calls that begin and end, and going on over another handle that stands at the same place,
-- in any order.
pub data Lives {L : Type 0} (contents : L → Option Contents) : JournalState L → JournalState L → Type 0 where
  begun : {a : JournalState L} → Lives contents a a
  accesses : {a b c : JournalState L} (l : Letter) → Lives contents a b → IsJournalAccess contents b l c
      → Lives contents a c
  refreshes : {a b c : JournalState L} (has_begun : Bool) → Lives contents a b → Begins contents true has_begun b c
      → Lives contents a c
  cleans : {a b c : JournalState L} (i : ℕ) (l : Letter) → Lives contents a b → CleansBy contents i b l c
      → Lives contents a c
  adopts : {a b c : JournalState L} (i : ℕ) (r : Result (Unit {0}) AdoptError) → Lives contents a b
      → Adopts contents i r b c → Lives contents a c
  spans : {a b c : JournalState L} → Lives contents a b → Spans contents b c → Lives contents a c
  resumes : {a b c : JournalState L} (log : L) (has_begun : Bool) → Lives contents a b
      → contents log ≡ contents b.log → Resumes contents log has_begun b c → Lives contents a c

-- It began in an empty world over a log of which it had taken nothing, and isn't over or lost. Its log is known, and
-- these are the entries that it has taken over or appended in the place where it is, or that the snapshot there has.
-- The counter begins with this number before them.
pub record HasTaken {L : Type 0} (contents : L → Option Contents) (counter : ℕ) (entries : List Entry)
    (b : JournalState L) : Type 0 where
  pub start : JournalState L
  pub lives : Lives contents start b
  pub was_not_lost : start.is_lost ≡ false
  pub before : Contents
  pub knew : contents start.log ≡ Some before
  pub empty : start.world ≡ empty_world before.begins
  pub had_none : before.taken ≡ []
  pub after : Contents
  pub knows : contents b.log ≡ Some after
  pub begins : after.begins ≡ counter
  pub has : after.taken ≡ entries
  pub is_not_over : b.is_over ≡ false
  pub is_not_lost : b.is_lost ≡ false

-- From nothing, with this number next, the entries come to the world: the first ones, but for who has only read, to one
-- that agrees, and the rest from there.
pub record AmountsTo (counter : ℕ) (entries : List Entry) (w : World) : Type 0 where
  pub front : List Entry
  pub rest : List Entry
  pub parts : entries ≡ front ++ rest
  pub exact : World
  pub comes : ComesTo (empty_world counter) front exact
  pub at : World
  pub same : IsSameButRead exact at
  pub agrees : Agrees at
  pub goes_on : ComesTo at rest w
