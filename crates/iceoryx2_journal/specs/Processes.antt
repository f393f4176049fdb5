-- What holds of several processes over one log, each of which has read a front of one list of entries: it has taken
-- these over, or appended them. Each law stands here once, for its clause and for its lemma.
use Rattle.std.specs.Prelude.{◌≡◌, ◌≢◌, ℕ, ◌≤◌, true, false, nat_eq, List, ◌++◌, length, Option, Some, None}
use Rattle.std.specs.List.{filter_map, IsDistinct}
use Rattle.iceoryx2_description.specs.Description.{max_nodes_of}
use Rattle.iceoryx2_access.specs.Letter.{Letter}
use Rattle.iceoryx2_access.specs.Registered.{Registered}
use Rattle.iceoryx2_access.specs.Run.{Run, Each}
use Rattle.iceoryx2_world.specs.World.{World}
use Rattle.iceoryx2_world.specs.Agreement.{Agrees}
use Rattle.iceoryx2_world.specs.Access.{IsOwnPart}
use Rattle.iceoryx2_world.specs.Standing.{Stands}
use Rattle.iceoryx2_log.specs.declared.entry.Operation.{Operation}
use Rattle.iceoryx2_log.specs.declared.entry.Operation.TheVariants as operation
use Rattle.iceoryx2_log.specs.declared.entry.Entry.{Entry}
use Rattle.iceoryx2_log.specs.Log.{Contents}
use Rattle.iceoryx2_journal.specs.Taking.{is_own}
use Rattle.iceoryx2_journal.specs.Journal.{JournalState}
use Rattle.iceoryx2_journal.specs.Snapshot.{StandsFor}
use Rattle.iceoryx2_journal.specs.Replay.{ComesTo, HasTaken}
use Rattle.iceoryx2_table.specs.Same.{IsSameButRead}

-- ---- what the laws speak of

-- the number under which a operation publishes a description
abbrev pub published_number : Operation → Option ℕ
published_number (operation.Publish n bytes) = Some n
published_number _ = None

-- the numbers under which entries publish descriptions, in their order
abbrev pub published_numbers : List Entry → List ℕ
published_numbers entries = filter_map (λ e. published_number e.operation) entries

-- the entry by which a factory's ticket is released
abbrev pub release_of : Registered → Entry
release_of f = record { node = f.node; hash = f.description.hash; operation = operation.Release f.ticket f.number }

-- No entry releases the factory's ticket.
abbrev pub AllSpare : Registered → List Entry → Type 0
AllSpare f entries = Each (λ e. e ≢ release_of f) entries

-- The entries are of nodes that aren't these.
abbrev pub AreOfOthers : List ℕ → List Entry → Type 0
AreOfOthers nodes entries = Each (λ e. is_own nodes e.node ≡ false) entries

-- From a world that agrees, and is the old one but for who has only read, the entries come to the new one. So a run of
-- accesses does.
pub record GoesOnBy (entries : List Entry) (old new : World) : Type 0 where
  pub from : World
  pub same : IsSameButRead old from
  pub agrees : Agrees from
  pub comes : ComesTo from entries new
  pub word : List Letter
  pub run : Run IsOwnPart from word new

-- The same, at once or across a snapshot that the other has read in place of entries: so far as it goes, and from
-- there.
pub data GoesOn (entries : List Entry) (old new : World) : Type 0 where
  at_once : GoesOnBy entries old new → GoesOn entries old new
  across : (first second : List Entry) (between : World) → entries ≡ first ++ second → GoesOnBy first old between
      → GoesOnBy second between new → GoesOn entries old new

module _ {L : Type 0} (contents : L → Option Contents) where
  -- The process has read a front of these entries, and not the rest.
  pub record HasRead (counter : ℕ) (entries : List Entry) (b : JournalState L) : Type 0 where
    pub front : List Entry
    pub rest : List Entry
    pub whole : front ++ rest ≡ entries
    pub taken : HasTaken contents counter front b

  -- At the end of these entries the factory stands: in the world of some process that has read a front of them, and
  -- none of the rest releases its ticket.
  pub record StandsAtTheEnd (counter : ℕ) (entries : List Entry) (f : Registered) : Type 0 where
    pub process : JournalState L
    pub read : HasRead counter entries process
    pub unreleased : AllSpare f read.rest
    pub stands : Stands process.world f

  -- The node has a factory of this one's service and number that stands at the end.
  pub record HasPart (counter : ℕ) (entries : List Entry) (f : Registered) (i : ℕ) : Type 0 where
    pub factory : Registered
    pub node : factory.node ≡ i
    pub hash : factory.description.hash ≡ f.description.hash
    pub number : factory.number ≡ f.number
    pub stands : StandsAtTheEnd counter entries factory

  -- ---- the laws

  -- The world of each process agrees.
  abbrev pub AgreesInEach : Type 0
  AgreesInEach = (counter : ℕ) (entries : List Entry) (b : JournalState L)
      → HasTaken contents counter entries b → Agrees b.world

  -- Where one process has read more than another, its world is a run of accesses from the other's, but for who has
  -- only read: by the entries that it has read more, in their order.
  abbrev pub GoesOnFromOthers : Type 0
  GoesOnFromOthers = (counter : ℕ) (entries more : List Entry) (b c : JournalState L)
      → HasTaken contents counter entries b → HasTaken contents counter (entries ++ more) c
      → GoesOn more b.world c.world

  -- No number is published twice in what a process has read.
  abbrev pub PublishesOnce : Type 0
  PublishesOnce = (counter : ℕ) (entries : List Entry) (b : JournalState L)
      → HasTaken contents counter entries b → IsDistinct nat_eq (published_numbers entries)

  -- Factories of one service and number carry one description, in whichever processes they stand.
  abbrev pub CarriesOneDescription : Type 0
  CarriesOneDescription = (counter : ℕ) (entries : List Entry) (b c : JournalState L) (f g : Registered)
      → HasRead counter entries b → HasRead counter entries c → Stands b.world f → Stands c.world g
      → f.description.hash ≡ g.description.hash → f.number ≡ g.number → f.description ≡ g.description

  -- A factory that stands in one process's world stands in that of each that has read more, unless its ticket is
  -- released there.
  abbrev pub StandsInOthers : Type 0
  StandsInOthers = (counter : ℕ) (entries more : List Entry) (b c : JournalState L) (f : Registered)
      → HasTaken contents counter entries b → HasTaken contents counter (entries ++ more) c
      → AllSpare f more → Stands b.world f → Stands c.world f

  -- So does each of an own node, where nothing that the other has read more is in an own node's name: a node is one
  -- process's.
  abbrev pub OwnStandsInOthers : Type 0
  OwnStandsInOthers = (counter : ℕ) (entries more : List Entry) (b c : JournalState L) (f : Registered)
      → HasTaken contents counter entries b → HasTaken contents counter (entries ++ more) c
      → AreOfOthers b.nodes more → is_own b.nodes f.node ≡ true → Stands b.world f → Stands c.world f

  -- An own node's factory that stands in its process's world stands at the end, where the rest of the entries is of
  -- nodes that aren't own there.
  abbrev pub OwnStandsAtTheEnd : Type 0
  OwnStandsAtTheEnd = (counter : ℕ) (entries : List Entry) (b : JournalState L) (f : Registered)
      → (read : HasRead counter entries b) → AreOfOthers b.nodes read.rest → is_own b.nodes f.node ≡ true
      → Stands b.world f → StandsAtTheEnd counter entries f

  -- Whichever the processes are, no more nodes have a factory of one service and number that stands at the end than
  -- its description allows.
  abbrev pub FewHaveAPart : Type 0
  FewHaveAPart = (counter : ℕ) (entries : List Entry) (f : Registered) (nodes : List ℕ)
      → StandsAtTheEnd counter entries f → IsDistinct nat_eq nodes → Each (HasPart counter entries f) nodes
      → length nodes ≤ max_nodes_of f.description.pattern

  -- ---- across compactions

  -- Where another process has read more, in whichever place: entries of one place; or those behind a snapshot that
  -- stands for this one's world, as one does that it has compacted the log to; or from one process to the next.
  pub data ReadsOn : List Entry → JournalState L → JournalState L → Type 0 where
    here : {b c : JournalState L} (counter : ℕ) (entries more : List Entry) → HasTaken contents counter entries b
        → HasTaken contents counter (entries ++ more) c → ReadsOn more b c
    compacted : {b c : JournalState L} (counter begins : ℕ) (entries snapshot more : List Entry)
        → HasTaken contents counter entries b → StandsFor begins snapshot b.world
        → HasTaken contents begins (snapshot ++ more) c → ReadsOn more b c
    then : {a b c : JournalState L} (first second : List Entry) → ReadsOn first a b → ReadsOn second b c
        → ReadsOn (first ++ second) a c

  -- A factory that stands in one process's world stands in that of each that has read more, over any number of
  -- compactions, unless its ticket is released there.
  abbrev pub StandsAcross : Type 0
  StandsAcross = (more : List Entry) (b c : JournalState L) (f : Registered)
      → ReadsOn more b c → AllSpare f more → Stands b.world f → Stands c.world f

  -- Factories of one service and number carry one description, over any number of compactions.
  abbrev pub CarriesOneAcross : Type 0
  CarriesOneAcross = (more : List Entry) (b c : JournalState L) (f g : Registered)
      → ReadsOn more b c → Stands b.world f → Stands c.world g
      → f.description.hash ≡ g.description.hash → f.number ≡ g.number → f.description ≡ g.description

  -- The node has a factory of this one's service and number in some process, from which this process has read more
  -- that doesn't release its ticket.
  pub record HasPartBefore (c : JournalState L) (f : Registered) (i : ℕ) : Type 0 where
    pub factory : Registered
    pub node : factory.node ≡ i
    pub hash : factory.description.hash ≡ f.description.hash
    pub number : factory.number ≡ f.number
    pub process : JournalState L
    pub more : List Entry
    pub reads_on : ReadsOn more process c
    pub unreleased : AllSpare factory more
    pub stands : Stands process.world factory

  -- Over any number of compactions no more nodes have a factory of one service and number that isn't released than its
  -- description allows.
  abbrev pub FewAcross : Type 0
  FewAcross = (c : JournalState L) (f : Registered) (nodes : List ℕ) → Agrees c.world → Stands c.world f
      → IsDistinct nat_eq nodes → Each (HasPartBefore c f) nodes → length nodes ≤ max_nodes_of f.description.pattern
