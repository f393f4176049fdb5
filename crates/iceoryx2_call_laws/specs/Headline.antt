-- What every call comes to, over a storage with a world inside.
use Rattle.std.specs.Prelude.{◌≡◌, ◌≢◌, ◌≤◌, ℕ, Bool, true, List, Result, Ok, IfOk}
use Rattle.iceoryx2_access.specs.Registered.{Registered}
use Rattle.iceoryx2_access.specs.Letter.{Letter}
use Rattle.iceoryx2_access.specs.Run.{Each, Run}
use Rattle.iceoryx2_world.specs.World.{World, phase_of}
use Rattle.iceoryx2_world.specs.ServiceAgreement.{IsSegmentOf}
use Rattle.iceoryx2_world.specs.Agreement.{Agrees}
use Rattle.iceoryx2_world.specs.Interference.{IsFallibleUnder}
use Rattle.iceoryx2_world.specs.Standing.{Spares, Stands}
use Rattle.iceoryx2_call_laws.specs.Calls.{Throughout}
use Rattle.iceoryx2_rounds.specs.BuilderCalls.{BuilderCall, ErrorBy}
use Rattle.iceoryx2_call_laws.specs.AnyCalls.{IsShortBy, MayCarryBy}
use Rattle.iceoryx2_rounds.specs.CallWords.{IsWordOf}

-- An open factory, as the world shows it.
pub record IsOpen (w : World) (f : Registered) : Type 0 where
  -- it carries the description that is published for its service, and its segment is there with its node,
  pub stands : Stands w f
  -- the one that each open factory of this service carries,
  pub one_description : (g : Registered) → Stands w g → g.description.hash ≡ f.description.hash
      → g.description ≡ f.description
  -- and among at most `max_nodes` nodes
  pub among : IsSegmentOf f.description f.number (λ p. phase_of w p f.description.hash) stands.segment.segment

module _ {S : Type 0} (step : S → Letter → S → Type 0) (world : S → World)
    {D E C : Type 0} (c : BuilderCall D E C) where
  -- The factory with which a call from s to t answered Ok.
  pub record IsGiven (s t : S) (r : Registered) : Type 0 where
    -- of the caller and the service that it named
    pub node : r.node ≡ c.caller.node
    pub hash : r.description.hash ≡ c.caller.hash
    -- it meets the call's requirement as it was asked, or holds the call's adjusted settings and attributes
    pub carries : MayCarryBy c c.way r.description
    -- its ticket is not below the counter that the call found, so no factory that was open has it
    pub ticket : (world s).counter ≤ r.ticket
    pub new_ticket : (f : Registered) → Stands (world s) f → f.ticket ≢ r.ticket
    -- it is open, and stays so after every access of anybody, until its own ticket is released
    pub stays_open : (more : List Letter) → Each (Spares r) more
        → Throughout step (λ u. IsOpen (world u) r) t more

  -- A call from s to t along this word, with this answer, of one of these nodes, which are one's own.
  pub record IsAsPromised (own : ℕ → Bool) (s : S) (word : List Letter)
      (answer : Result Registered (ErrorBy E C c.way)) (t : S) : Type 0 where
    -- within fixed counts
    pub counts : IsShortBy c.way word
    -- after every access each factory of an own node that was open is open
    pub stay_open : (f : Registered) → own f.node ≡ true → Stands (world s) f
        → Throughout step (λ u. IsOpen (world u) f) s word
    -- and so is the one that it gave
    pub given : IfOk answer (IsGiven s t)
    -- and so on with the next call
    pub agrees : Agrees (world t)

  -- So is the call along each of its words, from a state that agrees.
  abbrev pub EachIsAsPromised : (own : ℕ → Bool) → Type 0
  EachIsAsPromised own = (word : List Letter) (answer : Result Registered (ErrorBy E C c.way)) (s t : S)
      → IsWordOf c word answer → Run step s word t → Agrees (world s) → IsAsPromised own s word answer t

module _ {S : Type 0} (step : S → Letter → S → Type 0) (world : S → World)
    {D E C : Type 0} (c : BuilderCall D E C) (own : ℕ → Bool) (f : Registered) where
  -- The call has answered Ok with this factory, over a world that agreed, and since then no release of its ticket was
  -- granted, whatever else was done to the storage.
  pub data IsOpenSince : S → Type 0 where
    answered : {word : List Letter} {s t : S} → Agrees (world s) → IsWordOf c word (Ok f) → Run step s word t
        → IsOpenSince t
    -- an access of the storage,
    spared : {letter : Letter} {s t : S} → IsOpenSince s → Spares f letter → step s letter t → IsOpenSince t
    -- one that reached its world alone, as an access of the table inside a storage that refuses,
    inside : {letter : Letter} {s t : S} → IsOpenSince s → Spares f letter
        → IsFallibleUnder own (world s) letter (world t) → IsOpenSince t
    -- and another state of the same world, as a table's at which batches were scheduled
    same_world : {s t : S} → IsOpenSince s → world t ≡ world s → IsOpenSince t

-- The factory is open, with what the call that gave it asked.
pub record IsOpenAsAsked {D E C : Type 0} (c : BuilderCall D E C) (w : World) (f : Registered) : Type 0 where
  pub is_open : IsOpen w f
  pub node : f.node ≡ c.caller.node
  pub hash : f.description.hash ≡ c.caller.hash
  pub carries : MayCarryBy c c.way f.description

module _ {S : Type 0} (step : S → Letter → S → Type 0) (world : S → World)
    {D E C : Type 0} (c : BuilderCall D E C) (own : ℕ → Bool) where
  -- So is each since the call has answered Ok with it, until it is released.
  abbrev pub IsOpenUntilReleased : Type 0
  IsOpenUntilReleased = (f : Registered) (s : S) → IsOpenSince step world c own f s → IsOpenAsAsked c (world s) f
