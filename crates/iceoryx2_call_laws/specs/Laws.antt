-- The laws over whole calls, whatever others do. Each stands here once, for its clauses and for the lemma that proves
-- it. Laws that take `step` and `world` are over any storage with a world inside: a table, a storage that refuses
-- accesses of one, or a world by itself. Headline has what such a call is promised.
use Rattle.std.specs.Prelude.{◌≡◌, ◌≢◌, ℕ, Bool, true, List, Result, Ok, Err}
use Rattle.iceoryx2_access.specs.Letter.{Letter}
use Rattle.iceoryx2_access.specs.MayRefuse.{MayRefuse}
use Rattle.iceoryx2_access.specs.Registered.{Registered}
use Rattle.iceoryx2_access.specs.Run.{Run, Each}
use Rattle.iceoryx2_testing.specs.Faults.{FaultyState, IsInjectedFault}
use Rattle.iceoryx2_world.specs.World.{World, phase_of}
use Rattle.iceoryx2_world.specs.Access.{IsOwnPart}
use Rattle.iceoryx2_world.specs.ServiceAgreement.{IsSegmentOf, Later}
use Rattle.iceoryx2_world.specs.Agreement.{Agrees}
use Rattle.iceoryx2_world.specs.Interference.{Others, After, IsAccessUnder, IsFallibleUnder, SameTickets}
use Rattle.iceoryx2_world.specs.Standing.{Spares, Stands}
use Rattle.iceoryx2_world.specs.Tables.{TableState, IsTableAccess}
use Rattle.iceoryx2_errors.specs.declared.error.CloseError.TheVariants.{NotHere}
use Rattle.iceoryx2_rounds.specs.Closes.{IsCloseWord}
use Rattle.iceoryx2_rounds.specs.Counts.{IsWithin, close_limits}
use Rattle.iceoryx2_rounds.specs.BuilderCalls.{BuilderCall, Way, ErrorBy}
use Rattle.iceoryx2_rounds.specs.CallWords.{IsWordBy, IsWordOf}
use Rattle.iceoryx2_call_laws.specs.AnyCalls.{IsShortBy}
use Rattle.iceoryx2_call_laws.specs.Calls.{Throughout, AtEach, ActsCalmly, ChangesLast}
use Rattle.iceoryx2_call_laws.specs.CallLeaves.{LeavesBy}
use Rattle.iceoryx2_call_laws.specs.CloseLeaves.{CloseLeaves}
use Rattle.iceoryx2_call_laws.specs.Leaves.{IsGranted, LeavesNothing}
use Rattle.iceoryx2_call_laws.specs.Tickets.{CloseAnswer, HandsNothingBack}
use Rattle.iceoryx2_call_laws.specs.Tickets.{tickets_after, tickets_after_close, HasNoTicket}

-- ---- runs over tables
-- A run over a table is one over its world.
abbrev pub RunsOverWorld : Type 0
RunsOverWorld = (own : ℕ → Bool) (s t : TableState) (word : List Letter)
    → Run IsTableAccess s word t
    → Run (IsAccessUnder own) s.world word t.world × Run (IsFallibleUnder own) s.world word t.world

-- So is a run over a storage that refuses accesses of a table.
abbrev pub FaultyRunsOverWorld : Type 0
FaultyRunsOverWorld = (own : ℕ → Bool) (s t : FaultyState TableState) (word : List Letter)
    → Run (IsInjectedFault IsTableAccess) s word t
    → Run (After (Others own) (MayRefuse IsOwnPart)) s.inner.world word t.inner.world
    × Run (IsFallibleUnder own) s.inner.world word t.inner.world

-- ---- what stands
-- A standing factory's segment is one for its description.
abbrev pub StandsAmong : Type 0
StandsAmong = (w : World) (f : Registered)
    → Agrees w → (s : Stands w f)
    → IsSegmentOf f.description f.number (λ p. phase_of w p f.description.hash) s.segment.segment

-- Two standing factories of one service carry the same.
abbrev pub CarryTheSame : Type 0
CarryTheSame = (w : World) (f g : Registered)
    → Stands w f → Stands w g → f.description.hash ≡ g.description.hash
    → (f.number ≡ g.number) × (f.description ≡ g.description)

-- ---- a create, an open and an open or create
-- Each word of a call is short.
abbrev pub EachIsShort : {D E C : Type 0} → BuilderCall D E C → Way → Type 0
EachIsShort {E = E} {C = C} c way = (word : List Letter) (answer : Result Registered (ErrorBy E C way))
    → IsWordBy c way word answer → IsShortBy way word

module _ {D E C : Type 0} (own : ℕ → Bool) (c : BuilderCall D E C) where
  -- Of tickets of own nodes a call adds that of the factory that it gave, and nothing else.
  abbrev pub AddsItsTicket : Type 0
  AddsItsTicket = (word : List Letter) (answer : Result Registered (ErrorBy E C c.way)) (w v : World)
      → IsWordOf c word answer → Run (IsFallibleUnder own) w word v → Agrees w
      → SameTickets own (tickets_after w.tickets answer) v.tickets

  -- No access of a refused call changes what is published or counted,
  abbrev pub RefusesCalmly : Type 0
  RefusesCalmly = (word : List Letter) (refusal : ErrorBy E C c.way) (w : World)
      → own c.caller.node ≡ true → IsWordOf c word (Err refusal) → Agrees w
      → AtEach (IsFallibleUnder own) (ActsCalmly own) w word

  -- and of a granted call only the last one does.
  abbrev pub GrantsAtLast : Type 0
  GrantsAtLast = (word : List Letter) (r : Registered) (w : World)
      → own c.caller.node ≡ true → IsWordOf c word (Ok r) → Agrees w
      → ChangesLast own c.caller.node c.caller.hash w word

  -- If nothing is refused by a fault, a refused call gives everything back.
  abbrev pub GivesEverythingBack : Type 0
  GivesEverythingBack = (word : List Letter) (refusal : ErrorBy E C c.way) (w v : World)
      → own c.caller.node ≡ true → IsWordOf c word (Err refusal) → Run (IsAccessUnder own) w word v → Agrees w
      → Each IsGranted word × LeavesNothing c.caller.node c.caller.hash own word w v

-- ---- a close
-- It is short.
abbrev pub CloseIsShort : Type 0
CloseIsShort = (r : Registered) (word : List Letter) (answer : CloseAnswer)
    → IsCloseWord r word answer → IsWithin word close_limits

module _ (own : ℕ → Bool) where
  -- Of tickets of own nodes it takes its factory's out, unless it hands that back, and nothing else.
  abbrev pub TakesItsTicket : Type 0
  TakesItsTicket = (r : Registered) (word : List Letter) (answer : CloseAnswer) (w v : World)
      → IsCloseWord r word answer → Run (IsFallibleUnder own) w word v → Agrees w
      → SameTickets own (tickets_after_close w.tickets r answer) v.tickets

  -- Where nothing is refused by a fault what stands is closed with Ok.
  abbrev pub ClosesWhatStands : Type 0
  ClosesWhatStands = (r : Registered) (word : List Letter) (answer : CloseAnswer) (w v : World)
      → own r.node ≡ true → IsCloseWord r word answer → Run (IsAccessUnder own) w word v → Agrees w → Stands w r
      → (answer ≡ Ok tt) × HasNoTicket own v r.ticket

-- ---- over any storage with a world inside
module _ {S : Type 0} (step : S → Letter → S → Type 0) (world : S → World) where
  -- A run from s to t along this word keeps the agreement.
  pub record KeepsAgreementAlong (s : S) (word : List Letter) (t : S) : Type 0 where
    -- The world agrees after the run, and is later than before it.
    pub agrees : Agrees (world t)
    pub later : Later (world s) (world t)
    -- So it is after each access of the run.
    pub after_each : Throughout step (λ u. Agrees (world u) × Later (world s) (world u)) s word

  -- An access keeps a standing factory of an own node standing, unless it is a granted release of its ticket.
  abbrev pub AccessKeepsStanding : (own : ℕ → Bool) → Type 0
  AccessKeepsStanding own = (letter : Letter) (s t : S) (f : Registered)
      → own f.node ≡ true → step s letter t → Spares f letter → Agrees (world s) → Stands (world s) f
      → Stands (world t) f

  module _ {D E C : Type 0} (c : BuilderCall D E C) where
    -- Every run of a call keeps the agreement.
    abbrev pub CallKeepsAgreement : Type 0
    CallKeepsAgreement = (word : List Letter) (answer : Result Registered (ErrorBy E C c.way)) (s t : S)
        → IsWordOf c word answer → Run step s word t → Agrees (world s) → KeepsAgreementAlong s word t

    -- A standing factory of an own node stands throughout every call, whatever this answers.
    abbrev pub CallKeepsStanding : (own : ℕ → Bool) → Type 0
    CallKeepsStanding own = (word : List Letter) (answer : Result Registered (ErrorBy E C c.way)) (s : S)
        (f : Registered)
        → own f.node ≡ true → IsWordOf c word answer → Agrees (world s) → Stands (world s) f
        → Throughout step (λ u. Stands (world u) f) s word

    -- A refused call of an own node leaves nothing but that for which a removal was refused.
    abbrev pub LeavesWhatIsRefused : (own : ℕ → Bool) → Way → Type 0
    LeavesWhatIsRefused own way = (word : List Letter) (refusal : ErrorBy E C way) (s t : S)
        → own c.caller.node ≡ true → IsWordBy c way word (Err refusal) → Run step s word t → Agrees (world s)
        → LeavesBy own c way (world s) word (world t)

  -- Every run of a close keeps the agreement.
  abbrev pub CloseKeepsAgreement : Type 0
  CloseKeepsAgreement = (r : Registered) (word : List Letter) (answer : CloseAnswer) (s t : S)
      → IsCloseWord r word answer → Run step s word t → Agrees (world s) → KeepsAgreementAlong s word t

  module _ (own : ℕ → Bool) where
    -- A standing factory with another ticket stands throughout a close.
    abbrev pub CloseSpares : Type 0
    CloseSpares = (r : Registered) (word : List Letter) (answer : CloseAnswer) (s : S) (f : Registered)
        → own f.node ≡ true → IsCloseWord r word answer → Agrees (world s) → f.ticket ≢ r.ticket
        → Stands (world s) f → Throughout step (λ u. Stands (world u) f) s word

    -- A close hands back no factory but its own. If that stood, it stands throughout the close.
    abbrev pub HandsBackItsOwn : Type 0
    HandsBackItsOwn = (r back : Registered) (word : List Letter) (s : S)
        → own r.node ≡ true → IsCloseWord r word (Err (NotHere back)) → Agrees (world s)
        → (back ≡ r) × (Stands (world s) r → Throughout step (λ u. Stands (world u) r) s word)

    -- A close that doesn't hand its factory back takes the ticket out,
    abbrev pub TakesTicketOut : Type 0
    TakesTicketOut = (r : Registered) (word : List Letter) (answer : CloseAnswer) (s t : S)
        → IsCloseWord r word answer → HandsNothingBack answer → Run step s word t → Agrees (world s)
        → HasNoTicket own (world t) r.ticket

    -- and it leaves nothing but that for which a removal was refused.
    abbrev pub CloseLeavesWhatIsRefused : Type 0
    CloseLeavesWhatIsRefused = (r : Registered) (word : List Letter) (answer : CloseAnswer) (s t : S)
        → own r.node ≡ true → IsCloseWord r word answer → HandsNothingBack answer
        → Run step s word t → Agrees (world s) → CloseLeaves own r (world s) (world t) word
