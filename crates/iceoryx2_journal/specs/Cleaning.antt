-- What is given back for a node that doesn't do it itself, and a node that becomes an own one.
use Rattle.std.specs.Prelude.{◌≡◌, ◌≢◌, ◌⊎◌, ℕ, Bool, true, false, if◌then◌else◌, List, [], ◌∷◌, ◌++◌, codes}
use Rattle.std.specs.Prelude.{Option, Some, None, Result, Ok, Err}
use Rattle.iceoryx2_access.specs.declared.storage.Release.{Release as Released}
use Rattle.iceoryx2_access.specs.declared.storage.ReleaseError.{ReleaseError}
use Rattle.iceoryx2_access.specs.declared.storage.RemoveError.{RemoveError}
use Rattle.iceoryx2_access.specs.Counts.{count_up}
use Rattle.iceoryx2_access.specs.Letter.{Letter, acting_node}
use Rattle.iceoryx2_access.specs.Letter as letter
use Rattle.iceoryx2_access.specs.Registered.{Registered}
use Rattle.iceoryx2_access.specs.Run.{Run}
use Rattle.iceoryx2_description.specs.declared.description.ServiceHash.{ServiceHash}
use Rattle.iceoryx2_world.specs.declared.world.Participant.TheVariants.{Node}
use Rattle.iceoryx2_world.specs.declared.world.Phase.{Phase}
use Rattle.iceoryx2_world.specs.declared.world.Phase.TheVariants as at
use Rattle.iceoryx2_world.specs.World.{World, begins, phase_of}
use Rattle.iceoryx2_world.specs.Access.{IsOwnPart}
use Rattle.iceoryx2_world.specs.Agreement.{Agrees}
use Rattle.iceoryx2_world.specs.Standing.{Stands}
use Rattle.iceoryx2_table.specs.declared.holdings.Holding.{Holding}
use Rattle.iceoryx2_table.specs.declared.holdings.Holding.TheVariants as holding
use Rattle.iceoryx2_table.specs.Holdings.{IsHolding}
use Rattle.iceoryx2_log.specs.Log.{Contents}
use Rattle.iceoryx2_journal.specs.declared.cleaning.Cleaned.{Cleaned}
use Rattle.iceoryx2_journal.specs.declared.cleaning.CleanError.{CleanError}
use Rattle.iceoryx2_journal.specs.declared.cleaning.CleanError.TheVariants as errors
use Rattle.iceoryx2_journal.specs.declared.cleaning.GivenBack.{GivenBack}
use Rattle.iceoryx2_journal.specs.declared.cleaning.GivenBack.TheVariants as given
use Rattle.iceoryx2_journal.specs.declared.cleaning.Step.{Step}
use Rattle.iceoryx2_journal.specs.declared.cleaning.Step.TheVariants as step
use Rattle.iceoryx2_journal.specs.declared.cleaning.AdoptError.{AdoptError}
use Rattle.iceoryx2_journal.specs.declared.cleaning.AdoptError.TheVariants as adopting
use Rattle.iceoryx2_journal.specs.Taking.{is_own}
use Rattle.iceoryx2_journal.specs.Logged.{IsLoggedPart}
use Rattle.iceoryx2_journal.specs.Journal.{JournalState, TakesAll, Fails}

-- whether there is a segment that a node of this phase has to remove
abbrev pub has_segment : Phase → Bool
has_segment (at.Made n) = true
has_segment (at.Leaving n) = true
has_segment _ = false

-- The letter gives back what the node has, whatever the answer: a ticket by its release, a service's segment before
-- what is written under its hash, a tag by its removal.
abbrev pub GivesUp : (node : ℕ) → Holding → Letter → Type 0
GivesUp i (holding.Ticket t h n) l = (a : Result Released ReleaseError) × (l ≡ letter.Release t i h n a)
GivesUp i (holding.Service h x) l = (a : Result (Unit {0}) RemoveError)
    × (l ≡ (if has_segment x then letter.RemoveSegment i h a else letter.RemoveDescription i h a))
GivesUp i (holding.Tag h) l = (a : Result (Unit {0}) RemoveError) × (l ≡ letter.RemoveTag i h a)

-- something, where it is granted
abbrev pub if_granted : {A E : Type 0} → GivenBack → Result A E → Option GivenBack
if_granted x (Ok a) = Some x
if_granted x (Err e) = None

-- what is given back by a letter; nothing where it isn't granted
abbrev pub given_back : Letter → Option GivenBack
given_back (letter.Release t i h n a) = if_granted given.Ticket a
given_back (letter.RemoveSegment i h a) = if_granted given.Thing a
given_back (letter.RemoveDescription i h a) = if_granted given.Thing a
given_back (letter.RemoveTag i h a) = if_granted given.Thing a
given_back _ = None

-- the step in which this is given back
abbrev pub step_with : Option GivenBack → Step
step_with None = step.Refused
step_with (Some g) = step.Gave g

abbrev pub with_one : Cleaned → Option GivenBack → Cleaned
with_one c None = c
with_one c (Some given.Ticket) = record c { releases = count_up c.releases }
with_one c (Some given.Thing) = record c { removals = count_up c.removals }

-- how much a word gives back, from what was given back before
abbrev pub given_by : Cleaned → List Letter → Cleaned
given_by c [] = c
given_by c (l ∷ word) = given_by (with_one c (given_back l)) word

abbrev pub nothing_given : Cleaned
nothing_given = record { releases = 0; removals = 0 }

abbrev pub clean_error_text : CleanError → List ℕ
clean_error_text errors.IsOwn = codes "the node is an own one"
clean_error_text errors.Refused = codes "the log refused"

abbrev pub adopt_error_text : AdoptError → List ℕ
adopt_error_text adopting.Refused = codes "the log refused"
adopt_error_text adopting.OutOfMemory = codes "out of memory"

module _ {L : Type 0} (contents : L → Option Contents) (i : ℕ) where
  -- All that others appended is taken over, and then an access in the node's name gives back something that it has, or
  -- is refused.
  pub record CleansBy (old : JournalState L) (l : Letter) (new : JournalState L) : Type 0 where
    pub mid : JournalState L
    pub all : TakesAll contents old mid
    pub held : Holding
    pub has : IsHolding mid.world i (Some held)
    pub gives : GivesUp i held l
    pub part : IsLoggedPart contents mid.world l new.world mid.log new.log
    pub nodes : new.nodes ≡ mid.nodes
    pub over : new.is_over ≡ mid.is_over
    pub lost : new.is_lost ≡ mid.is_lost

  -- All that others appended is taken over, and the node has nothing.
  abbrev pub FindsNothing : JournalState L → JournalState L → Type 0
  FindsNothing old new = TakesAll contents old new × IsHolding new.world i None

  -- One step, by how it ends.
  abbrev pub CleansNext : Step → JournalState L → JournalState L → Type 0
  CleansNext (step.Gave g) old new = (l : Letter) × CleansBy old l new × (given_back l ≡ Some g)
  CleansNext step.Finished old new = FindsNothing old new
  CleansNext step.Refused old new =
      Fails contents true old new ⊎ ((l : Letter) × CleansBy old l new × (given_back l ≡ None))

  -- Steps one after the other, and what they give back.
  pub record CleansSome (old : JournalState L) (c : Cleaned) (new : JournalState L) : Type 0 where
    pub word : List Letter
    pub run : Run CleansBy old word new
    pub counts : c ≡ given_by nothing_given word

  -- What giving all back comes to, by how it ends: the node has nothing any more; or a step is refused, and what was
  -- given back before it stays so.
  abbrev pub CleansAll : Result Cleaned CleanError → JournalState L → JournalState L → Type 0
  CleansAll (Ok c) old new = (mid : JournalState L) × CleansSome old c mid × FindsNothing mid new
  CleansAll (Err e) old new = (e ≡ errors.Refused) × (c : Cleaned) × (mid : JournalState L) × CleansSome old c mid
      × ((new ≡ mid) ⊎ CleansNext step.Refused mid new)

  -- What cleaning comes to: nothing where the node is an own one.
  abbrev pub Cleans : Result Cleaned CleanError → JournalState L → JournalState L → Type 0
  Cleans (Err errors.IsOwn) old new = (is_own old.nodes i ≡ true) × (new ≡ old)
  Cleans (Err errors.Refused) old new = (is_own old.nodes i ≡ false) × CleansAll (Err errors.Refused) old new
  Cleans (Ok c) old new = (is_own old.nodes i ≡ false) × CleansAll (Ok c) old new

  -- A node becomes an own one, after all that others appended was taken over; or not, and the own nodes stay.
  abbrev pub Adopts : Result (Unit {0}) AdoptError → JournalState L → JournalState L → Type 0
  Adopts (Ok x) old new = (mid : JournalState L) × TakesAll contents old mid
      × (new ≡ record mid { nodes = mid.nodes ++ i ∷ []; log = new.log }) × (contents new.log ≡ contents mid.log)
  Adopts (Err adopting.OutOfMemory) old new = TakesAll contents old new
  Adopts (Err adopting.Refused) old new = Fails contents true old new

-- ---- what holds of it
-- A node that has nothing holds nothing of any service: it is Idle there, or has only read.
abbrev pub HoldsNothing : Type 0
HoldsNothing = (w : World) (i : ℕ) (h : ServiceHash) → Agrees w → IsHolding w i None
    → begins (phase_of w (Node i) h) ≡ true

-- Each letter of cleaning is in the node's name.
abbrev pub IsInItsName : {L : Type 0} → (L → Option Contents) → Type 0
IsInItsName {L} contents = (i : ℕ) (old : JournalState L) (l : Letter) (new : JournalState L)
    → CleansBy contents i old l new → acting_node l ≡ i

-- What gives something of a node back leaves each factory of another node standing.
abbrev pub SparesOtherNodes : Type 0
SparesOtherNodes = (w v : World) (i : ℕ) (held : Holding) (l : Letter) (f : Registered)
    → GivesUp i held l → f.node ≢ i → IsOwnPart w l v → Agrees w → Stands w f → Stands v f
