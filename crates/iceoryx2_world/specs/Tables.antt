-- A table at which batches of peers' steps wait: before each access the next batch runs.
use Rattle.std.specs.Prelude.{◌≡◌, refl, ℕ, List, [], ◌∷◌, map, Vec}
use Rattle.std.specs.Coded.{Coded, code_by, coded×, coded_ℕ, coded_list}
use Rattle.iceoryx2_world.specs.World.{World}
use Rattle.iceoryx2_world.specs.Access.{IsOwnPart}
use Rattle.iceoryx2_world.specs.Codes.{coded_world}
use Rattle.iceoryx2_access.specs.Letter.{Letter}
use Rattle.iceoryx2_world.specs.declared.batches.Step.{Step}
use Rattle.iceoryx2_world.specs.contracts.batches.Step as step
use Rattle.iceoryx2_world.specs.Batches.{IsBatch}

pub record TableState : Type 0 where
  pub world : World
  -- the batches, the next one first
  pub waiting : List (List Step)
  -- how many steps found no memory
  pub skipped : ℕ

-- a code of it, so that it can be a model's value
abbrev pub coded_table : Coded TableState
coded_table =
    code_by (World × (List (List Step) × ℕ))
    (coded× coded_world (coded× (coded_list (coded_list step.the_row.coded)) coded_ℕ))
    (λ t. (t.world, (t.waiting, t.skipped)))
    (λ p. record { world = p.0; waiting = p.1.0; skipped = p.1.1 }) (λ _. refl)

-- what is seen of batches in vectors
abbrev pub batch_items : {A : Type 0} → List (Vec Step A) → List (List Step)
batch_items batches = map (λ batch. batch.items) batches

-- the batch that runs next, which has no step where none waits
abbrev pub next_batch : List (List Step) → List Step
next_batch [] = []
next_batch (batch ∷ more) = batch

-- what waits after it
abbrev pub later_batches : List (List Step) → List (List Step)
later_batches [] = []
later_batches (batch ∷ more) = more

-- The next batch alone.
pub record IsBatchRun (s t : TableState) : Type 0 where
  pub batch : IsBatch (s.world, s.skipped) (next_batch s.waiting) (t.world, t.skipped)
  pub rest : t.waiting ≡ later_batches s.waiting

-- An access of the table with its answer: the next batch, step by step, and then the node's own part.
pub record IsTableAccess (s : TableState) (l : Letter) (t : TableState) : Type 0 where
  pub between : World
  pub batch : IsBatch (s.world, s.skipped) (next_batch s.waiting) (between, t.skipped)
  pub rest : t.waiting ≡ later_batches s.waiting
  pub own : IsOwnPart between l t.world
