-- Numbers that a node spends at a service, so that the counter goes on at a later one.
use Rattle.std.specs.Prelude.{◌≡◌, ◌⊎◌, ℕ, zero, suc, ◌+◌, ◌-◌, ◌≤◌, List, [], ◌∷◌, None, Ok}
use Rattle.std.specs.FinMap as map
use Rattle.iceoryx2_description.specs.declared.description.ServiceHash.{ServiceHash}
use Rattle.iceoryx2_access.specs.Letter.{Letter}
use Rattle.iceoryx2_access.specs.Letter as letter
use Rattle.iceoryx2_access.specs.Run.{Run, Each}
use Rattle.iceoryx2_world.specs.declared.world.Participant.TheVariants.{Node}
use Rattle.iceoryx2_world.specs.Access.{IsOwnPart}
use Rattle.iceoryx2_world.specs.Steps.{last_number}
use Rattle.iceoryx2_world.specs.World.{World, row_of}

module _ (i : ℕ) (h : ServiceHash) where
  -- Where nothing is written under the hash, and nothing is kept of the node there, the counter goes on at n.
  pub record Spends (n : ℕ) (old new : World) : Type 0 where
    pub rises : old.counter ≤ n
    pub last : n ≤ last_number
    pub absent : row_of old h ≡ None
    -- who is absent is Idle; an Idle that were kept would go with the removal
    pub idle : map.get old.phases (Node i, h) ≡ None
    pub spent : new ≡ record old { counter = n }

  -- The node locks the service under c and gives it up again, and does so for so many numbers in order.
  abbrev pub locks_and_gives_up : (c count : ℕ) → List Letter
  locks_and_gives_up c zero = []
  locks_and_gives_up c (suc k) =
      letter.Lock i h (Ok c) ∷ letter.RemoveDescription i h (Ok tt) ∷ locks_and_gives_up (c + 1) k

  -- It is a granted lock of the node there, or a granted removal.
  abbrev pub LocksOrGivesUp : Letter → Type 0
  LocksOrGivesUp l = ((c : ℕ) × (l ≡ letter.Lock i h (Ok c))) ⊎ (l ≡ letter.RemoveDescription i h (Ok tt))

-- Spending numbers is no new kind of step: it comes to the world to which the node comes that locks the service under
-- each of them and gives it up again, and does nothing else.
abbrev pub SpendingIsLocking : Type 0
SpendingIsLocking = (i : ℕ) (h : ServiceHash) (n : ℕ) (old new : World) → Spends i h n old new
    → Run IsOwnPart old (locks_and_gives_up i h old.counter (n - old.counter)) new
    × Each (LocksOrGivesUp i h) (locks_and_gives_up i h old.counter (n - old.counter))
