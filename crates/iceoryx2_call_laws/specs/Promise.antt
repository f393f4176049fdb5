-- What is promised of a call of which nothing is asked but that it is lawful.
use Rattle.std.specs.Prelude.{◌≡◌, ℕ, Bool, true, List, Result, IfOk}
use Rattle.iceoryx2_access.specs.Letter.{Letter}
use Rattle.iceoryx2_access.specs.MayRefuse.{MayRefuse}
use Rattle.iceoryx2_access.specs.Registered.{Registered}
use Rattle.iceoryx2_access.specs.Run.{Run}
use Rattle.iceoryx2_rounds.specs.Adjusting.{MeetsOrHolds}
use Rattle.iceoryx2_rounds.specs.BuilderCalls.{BuilderCall, ErrorBy}
use Rattle.iceoryx2_rounds.specs.CallWords.{IsWordOf}
use Rattle.iceoryx2_testing.specs.Faults.{IsInjectedFault}
use Rattle.iceoryx2_world.specs.World.{World}
use Rattle.iceoryx2_world.specs.Agreement.{Agrees}
use Rattle.iceoryx2_world.specs.Access.{IsOwnPart}
use Rattle.iceoryx2_world.specs.Interference.{Others, After, IsFallibleUnder, everyone}
use Rattle.iceoryx2_world.specs.Tables.{IsTableAccess}
use Rattle.iceoryx2_call_laws.specs.Headline.{IsAsPromised, IsOpenAsAsked, IsOpenSince}

-- Over a storage with a world inside, where these nodes are one's own.
pub record PromiseOver {S : Type 0} (step : S → Letter → S → Type 0) (world : S → World)
    {D E C : Type 0} (c : BuilderCall D E C) (own : ℕ → Bool) : Type 0 where
  -- Along each of its words from a state that agrees it is as promised, and what it gave meets what was asked, or holds
  -- what was published with that adjusted once.
  pub kept : (word : List Letter) (answer : Result Registered (ErrorBy E C c.way)) (s t : S)
      → IsWordOf c word answer → Run step s word t → Agrees (world s)
      → IsAsPromised step world c own s word answer t × IfOk answer (λ r. MeetsOrHolds c r.description)
  -- By history: since it answered Ok with a factory and before the release of its ticket this is open, with that.
  pub until_released : (f : Registered) (s : S) → IsOpenSince step world c own f s
      → IsOpenAsAsked c (world s) f × MeetsOrHolds c f.description

pub record Promise {D E C : Type 0} (c : BuilderCall D E C) : Type 0 where
  -- over a table, whatever batches of peers' steps wait there,
  pub over_tables : PromiseOver IsTableAccess (λ u. u.world) c everyone
  -- over any world, under any interference with own nodes and whichever accesses are refused by a fault,
  pub in_any_world : (own : ℕ → Bool) → own c.caller.node ≡ true → PromiseOver (IsFallibleUnder own) (λ u. u) c own
  -- as where steps of peers and accesses of other nodes fall between those of the call,
  pub among_others : (own : ℕ → Bool) → own c.caller.node ≡ true
      → PromiseOver (After (Others own) (MayRefuse IsOwnPart)) (λ u. u) c own
  -- and over a storage that refuses chosen accesses of a table
  pub under_faults : PromiseOver (IsInjectedFault IsTableAccess) (λ u. u.inner.world) c everyone
