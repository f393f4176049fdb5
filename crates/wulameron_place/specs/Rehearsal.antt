-- What cleaning up for nodes would give back, tried in a world of its own.
use Rattle.std.specs.Prelude.{◌≡◌, ◌⊎◌, ℕ, List, Option, Some, None}
use Rattle.iceoryx2_access.specs.Letter.{Letter}
use Rattle.iceoryx2_access.specs.Run.{Run}
use Rattle.iceoryx2_world.specs.World.{World}
use Rattle.iceoryx2_world.specs.Access.{IsOwnPart}
use Rattle.iceoryx2_table.specs.declared.holdings.Holding.{Holding}
use Rattle.iceoryx2_table.specs.Holdings.{IsHolding}
use Rattle.iceoryx2_journal.specs.declared.cleaning.Cleaned.{Cleaned}
use Rattle.iceoryx2_journal.specs.declared.cleaning.Step.{Step}
use Rattle.iceoryx2_journal.specs.declared.cleaning.Step.TheVariants as step
use Rattle.iceoryx2_journal.specs.Cleaning.{GivesUp, given_back, given_by, nothing_given}

module _ (i : ℕ) where
  -- A letter gives back something that the node has, by the node's own part in the world.
  pub record GivesIn (w : World) (l : Letter) (v : World) : Type 0 where
    pub held : Holding
    pub has : IsHolding w i (Some held)
    pub gives : GivesUp i held l
    pub part : IsOwnPart w l v

  -- One step, by how it ends.
  abbrev pub RehearsesNext : Step → World → World → Type 0
  RehearsesNext (step.Gave g) w v = (l : Letter) × GivesIn w l v × (given_back l ≡ Some g)
  RehearsesNext step.Finished w v = (v ≡ w) × IsHolding w i None
  RehearsesNext step.Refused w v = (l : Letter) × GivesIn w l v × (given_back l ≡ None)

  -- Steps one after the other, and what they give back.
  pub record RehearsesSome (w : World) (c : Cleaned) (v : World) : Type 0 where
    pub word : List Letter
    pub run : Run GivesIn w word v
    pub counts : c ≡ given_by nothing_given word

  -- What giving all back comes to: the node has nothing any more; or a step is refused, and what was given back before
  -- it stays so.
  abbrev pub Rehearses : Option Cleaned → World → World → Type 0
  Rehearses (Some c) w v = RehearsesSome w c v × IsHolding v i None
  Rehearses None w v = (c : Cleaned) × (mid : World) × RehearsesSome w c mid
      × ((v ≡ mid) ⊎ RehearsesNext step.Refused mid v)
