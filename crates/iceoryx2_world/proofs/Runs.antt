-- Runs along a projection of the states.
use Rattle.std.proofs.Common.{inl, inr, List, ap}
use Rattle.iceoryx2_access.specs.Letter.{Letter}
use Rattle.iceoryx2_access.specs.Run.{Run, done, next}
use Rattle.iceoryx2_access.specs.MayRefuse.{MayRefuse}

-- a run is one of what each state is seen as, from a state with a property that each step keeps
pub run_map_where : {S T L : Type 0} {big : S → L → S → Type 0} {small : T → L → T → Type 0} (f : S → T) (P : S → Type 0) → ((a b : S) (l : L) → P a → big a l b → small (f a) l (f b) × P b) → {a b : S} {word : List L} → P a → Run big a word b → Run small (f a) word (f b) × P b
run_map_where f P each p done = (done, p)
run_map_where f P each p (next h rest) =
    let one = each _ _ _ p h in
    let more = run_map_where f P each one.1 rest in
    (next one.0 more.0, more.1)

-- a step that may be refused is one of what its states are seen as
pub refusable_map : {S T : Type 0} (big : S → Letter → S → Type 0) (small : T → Letter → T → Type 0) (f : S → T) → ((a b : S) (l : Letter) → big a l b → small (f a) l (f b)) → (a b : S) (l : Letter) → MayRefuse big a l b → MayRefuse small (f a) l (f b)
refusable_map big small f each a b l (inl h) = inl (each a b l h)
refusable_map big small f each a b l (inr e) = inr (e.0, ap f e.1)
