-- What a refused call leaves, whichever it is.
use Rattle.std.specs.Prelude.{ℕ, Bool, List, None}
use Rattle.iceoryx2_description.specs.declared.description.ServiceHash.{ServiceHash}
use Rattle.iceoryx2_access.specs.Letter.{Letter}
use Rattle.iceoryx2_world.specs.World.{World}
use Rattle.iceoryx2_rounds.specs.Fronts.{number_got, is_left, GivesAllBack, GivesTagsBack}
use Rattle.iceoryx2_rounds.specs.BuilderCalls.{BuilderCall, Way, ToCreate, ToOpen, ToOpenOrCreate}
use Rattle.iceoryx2_call_laws.specs.Leaves.{Leaves, LeavesByRounds}

-- A create leaves only that for which a removal was refused,
pub record LeavesOfCreate (own : ℕ → Bool) (node : ℕ) (hash : ServiceHash) (w : World) (word : List Letter) (v : World)
    : Type 0 where
  pub gives_back : GivesAllBack node hash word
  pub leaves : Leaves node hash own (number_got word) (is_left gives_back.back) w v

-- an open at most its tag,
pub record LeavesAtMostTag (own : ℕ → Bool) (node : ℕ) (hash : ServiceHash) (w : World) (word : List Letter) (v : World)
    : Type 0 where
  pub gives_back : GivesTagsBack node hash word
  pub leaves : Leaves node hash own None (is_left word) w v

-- and an open or create so round by round.
abbrev pub LeavesBy : {D E C : Type 0} → (own : ℕ → Bool) → BuilderCall D E C → Way → World → List Letter → World
    → Type 0
LeavesBy own c ToCreate w word v = LeavesOfCreate own c.caller.node c.caller.hash w word v
LeavesBy own c ToOpen w word v = LeavesAtMostTag own c.caller.node c.caller.hash w word v
LeavesBy own c ToOpenOrCreate w word v = LeavesByRounds c.caller.node c.caller.hash own w v word v
