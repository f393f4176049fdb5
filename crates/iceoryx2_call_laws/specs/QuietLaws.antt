-- What holds of a world that shows the quiet machine, and of the calls over it.
use Rattle.std.specs.Prelude.{◌≡◌, ◌≢◌, ◌↔◌, ℕ, ◌+◌, ◌≤◌, IsTrue, false, List, Option, Some, None, unwrap_or}
use Rattle.std.specs.Prelude.{Result, Ok, Err, IfOk}
use Rattle.std.specs.FinMap as map
use Rattle.iceoryx2_description.specs.declared.description.ServiceHash.{ServiceHash}
use Rattle.iceoryx2_world.specs.declared.listing.Entry.{Entry}
use Rattle.iceoryx2_world.specs.declared.world.Participant.TheVariants.{Node}
use Rattle.iceoryx2_world.specs.declared.world.Ticket.{Ticket}
use Rattle.iceoryx2_world.specs.World.{World, empty_world, row_of, segment_of, phase_of, tag_of, join_count}
use Rattle.iceoryx2_world.specs.World.{ticket_of, ticket_count}
use Rattle.iceoryx2_world.specs.Access.{IsOwnPart}
use Rattle.iceoryx2_world.specs.Agreement.{Agrees}
use Rattle.iceoryx2_world.specs.Listing.{Lists}
use Rattle.iceoryx2_world.specs.Standing.{Stands, ticket_for}
use Rattle.iceoryx2_access.specs.Letter.{Letter}
use Rattle.iceoryx2_access.specs.Registered.{Registered}
use Rattle.iceoryx2_access.specs.Run.{Run}
use Rattle.iceoryx2_rounds.specs.PatternRules.{PatternRules}
use Rattle.iceoryx2_rounds.specs.Closes.{IsCloseWord}
use Rattle.iceoryx2_rounds.specs.declared.caller.Caller.{Caller}
use Rattle.iceoryx2_rounds.specs.BuilderCalls.{BuilderCall, ErrorBy}
use Rattle.iceoryx2_call_laws.specs.Headline.{IsOpenAsAsked}
use Rattle.iceoryx2_call_laws.specs.OpensAgain.{StandsAsAsked, CanOpen, IsOkOrOutOfMemory}
use Rattle.iceoryx2_call_laws.specs.Quiet.{Quiet, QuietService, Shows, no_service, service_at, times_counted}
use Rattle.iceoryx2_call_laws.specs.QuietCalls.{Closes}
use Rattle.iceoryx2_call_laws.specs.QuietLists.{listing}
use Rattle.iceoryx2_call_laws.specs.QuietPrepared.{OpensPrepared, CreatesAndCloses}
use Rattle.iceoryx2_call_laws.specs.QuietWays.{Answers}
use Rattle.iceoryx2_call_laws.specs.Tickets.{CloseAnswer, tickets_after}

-- This word runs over a world that agrees and shows the machine, and nobody else acts.
pub record RunsQuietly (w : World) (q : Quiet) (word : List Letter) (v : World) : Type 0 where
  pub shows : Shows w q
  pub agrees : Agrees w
  pub run : Run IsOwnPart w word v

-- After a create, an open or an open or create from w to v, which is one of these calls of the machine.
pub record IsCall {E : Type 0} (w : World) (Calls : Quiet → Type 0) (answer : Result Registered E) (v : World)
    : Type 0 where
  pub state : Quiet
  pub call : Calls state
  pub shows : Shows v state
  pub agrees : Agrees v
  pub tickets : v.tickets ≡ tickets_after w.tickets answer
  -- the factory that it gave stands, and its ticket is a new one
  pub given : IfOk answer (λ r. Stands v r × (r.ticket ≡ w.counter))
  -- what stood before stands
  pub kept : (f : Registered) → Stands w f → Stands v f

-- After the close of a factory from w to v, where w shows q.
pub record IsClose (w : World) (q : Quiet) (r : Registered) (v : World) : Type 0 where
  pub state : Quiet
  pub call : Closes q r.node r.description.hash state
  pub shows : Shows v state
  pub agrees : Agrees v
  pub tickets : v.tickets ≡ map.remove w.tickets r.ticket
  -- what stood before stands, but for this factory
  pub kept : (f : Registered) → f.ticket ≢ r.ticket → Stands w f → Stands v f

-- The node has opened the service of this hash and number.
pub record HasOpened (q : Quiet) (i : ℕ) (h : ServiceHash) (n : ℕ) : Type 0 where
  pub service : QuietService
  pub there : service_at q h ≡ Some service
  pub number : service.number ≡ n
  pub count : ℕ
  pub counted : times_counted service i ≡ Some count

-- The node has opened the service of this hash so often.
pub record HasOpenedTimes (q : Quiet) (i : ℕ) (h : ServiceHash) (k : ℕ) : Type 0 where
  pub service : QuietService
  pub there : service_at q h ≡ Some service
  pub counted : times_counted service i ≡ Some k

-- Under the factory's hash the machine has a service of the factory's description and number.
pub record HasServiceOf (q : Quiet) (f : Registered) : Type 0 where
  pub service : QuietService
  pub there : service_at q f.description.hash ≡ Some service
  pub description : service.description ≡ f.description
  pub number : service.number ≡ f.number

-- how often a node has opened the service under a hash
abbrev pub times_at : Option QuietService → ℕ → ℕ
times_at None i = 0
times_at (Some x) i = unwrap_or (times_counted x i) 0

abbrev pub times_opened : Quiet → ℕ → ServiceHash → ℕ
times_opened q i h = times_at (service_at q h) i

-- Both worlds have the same descriptions, segments, tags and counts.
pub record HoldsTheSame (w v : World) : Type 0 where
  pub rows : (h : ServiceHash) → row_of v h ≡ row_of w h
  pub segments : (h : ServiceHash) → segment_of v h ≡ segment_of w h
  pub tags : (i : ℕ) (h : ServiceHash) → tag_of v i h ≡ tag_of w i h
  pub counts : (i : ℕ) (h : ServiceHash) → join_count (phase_of v (Node i) h) ≡ join_count (phase_of w (Node i) h)

-- Of this service the world has no description, segment, tag or count.
pub record HasNothingAt (w : World) (h : ServiceHash) : Type 0 where
  pub row : row_of w h ≡ None
  pub segment : segment_of w h ≡ None
  pub tags : (i : ℕ) → tag_of w i h ≡ false
  pub counts : (i : ℕ) → join_count (phase_of w (Node i) h) ≡ 0

-- Nothing of this service is left, the rest is as it was, and one number is spent.
pub record SpendsOneNumber (w v : World) (h : ServiceHash) : Type 0 where
  pub nothing : HasNothingAt v h
  pub same : HoldsTheSame w v
  pub spent : v.counter ≡ w.counter + 1

-- The node, which had opened the service so often, has opened it once more, and takes no further place.
pub record OpensOnceMore (w v : World) (i : ℕ) (h : ServiceHash) (k : ℕ) : Type 0 where
  pub segment : segment_of v h ≡ segment_of w h
  pub before : join_count (phase_of w (Node i) h) ≡ k
  pub after : join_count (phase_of v (Node i) h) ≡ k + 1

-- ---- the laws: each stands here once, for its clause and for the lemma that proves it
-- A world in which nothing is there shows no service.
abbrev pub EmptyShows : Type 0
EmptyShows = (c : ℕ) → Shows (empty_world c) (no_service c)

-- Each such word that runs quietly is such a call of the machine.
abbrev pub Follows : {E : Type 0} → (IsWord : List Letter → Result Registered E → Type 0)
    → (Calls : Quiet → Result Registered E → Quiet → Type 0) → Type 0
Follows {E} IsWord Calls = (w v : World) (q : Quiet) (word : List Letter) (answer : Result Registered E)
    → RunsQuietly w q word v → IsWord word answer → IsCall w (Calls q answer) answer v

-- A close of a factory whose ticket is there is the machine's.
abbrev pub ClosesQuietly : Type 0
ClosesQuietly = (r : Registered) (w v : World) (q : Quiet) (word : List Letter) (answer : CloseAnswer)
    → RunsQuietly w q word v → IsCloseWord r word answer → ticket_of w r.ticket ≡ Some (ticket_for r)
    → (answer ≡ Ok tt) × IsClose w q r v

-- Whose ticket is there has opened its service,
abbrev pub TicketsHaveOpened : Type 0
TicketsHaveOpened = (w : World) (q : Quiet) (t : ℕ) (x : Ticket)
    → Shows w q → Agrees w → ticket_of w t ≡ Some x → HasOpened q x.node x.hash x.number

-- and what stands carries what the machine has.
abbrev pub StandingHasService : Type 0
StandingHasService = (w : World) (q : Quiet) (f : Registered) → Shows w q → Stands w f → HasServiceOf q f

-- The machine counts a node's tickets for a service,
abbrev pub CountsTickets : Type 0
CountsTickets = (w : World) (q : Quiet) (node : ℕ) (hash : ServiceHash)
    → Shows w q → Agrees w → ticket_count w.tickets node hash ≡ times_opened q node hash

-- and a node that it counts has a tag.
abbrev pub CountsTags : Type 0
CountsTags = (w : World) (q : Quiet) (node : ℕ) (hash : ServiceHash)
    → Shows w q → IsTrue (tag_of w node hash) ↔ (1 ≤ times_opened q node hash)

-- Two worlds that show the same services hold the same.
abbrev pub SameServicesHoldTheSame : Type 0
SameServicesHoldTheSame = (w v : World) (q p : Quiet)
    → Shows w q → Shows v p → p.services ≡ q.services → HoldsTheSame w v

-- Where the machine has no service there is nothing,
abbrev pub NothingWithoutService : Type 0
NothingWithoutService = (w : World) (q : Quiet) (hash : ServiceHash)
    → Shows w q → service_at q hash ≡ None → HasNothingAt w hash

-- and without a ticket it has none.
abbrev pub NothingWithoutTicket : Type 0
NothingWithoutTicket = (w : World) (q : Quiet)
    → Shows w q → Agrees w → ((t : ℕ) → ticket_of w t ≡ None)
    → (q.services ≡ map.empty) × ((hash : ServiceHash) → HasNothingAt w hash)

-- Its services are listed, and nothing else.
abbrev pub ListsItsServices : Type 0
ListsItsServices = (w : World) (q : Quiet) (entries : List Entry) → Shows w q → Lists w entries
    → entries ≡ listing q

module _ {D E C : Type 0} (c : BuilderCall D E C) where
  -- A refused call changes nothing of any service,
  abbrev pub RefusalHoldsTheSame : Type 0
  RefusalHoldsTheSame = (w v : World) (q p : Quiet) (refusal : ErrorBy E C c.way)
      → Shows w q → Shows v p → Answers c c.way q (Err refusal) p → HoldsTheSame w v

  -- and what stands where a factory is open as it asked carries what it may give.
  abbrev pub CarriesAsAsked : Type 0
  CarriesAsAsked = (w : World) (f g : Registered)
      → IsOpenAsAsked c w f → Stands w g → g.description.hash ≡ f.description.hash → StandsAsAsked c w g

module _ {E C : Type 0} (m : PatternRules E C) where
  -- A create and the close of its factory spend a number.
  abbrev pub CreateAndCloseSpend : Type 0
  CreateAndCloseSpend = (caller : Caller) (w v : World) (q z : Quiet) (r : Registered)
      → Shows w q → Shows v z → CreatesAndCloses m q caller r z → SpendsOneNumber w v caller.hash

  -- A further factory of a node takes no further place.
  abbrev pub TakesNoFurtherPlace : Type 0
  TakesNoFurtherPlace = (node : ℕ) (hash : ServiceHash) (w v : World) (q p : Quiet) (r : Registered) (k : ℕ)
      → Shows w q → Shows v p → HasOpenedTimes q node hash k → OpensPrepared m q node hash (Ok r) p
      → OpensOnceMore w v node hash k

  -- What can be opened is refused at most for want of memory.
  abbrev pub OpensWhatItCan : Type 0
  OpensWhatItCan = (node : ℕ) (hash : ServiceHash) (q p : Quiet) (answer : Result Registered E)
      → CanOpen m q node hash → OpensPrepared m q node hash answer p → IsOkOrOutOfMemory m answer
