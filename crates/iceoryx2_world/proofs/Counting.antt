-- The count of skipped steps, and that a step that keeps nothing new is never skipped.
use Rattle.std.proofs.Common.{◌≡◌, refl, ℕ, ◌≤◌, false, List, sym, ap, subst, ◌∙◌, inl, inr, arith}
use Rattle.std.specs.Prelude.{unwrap_or}
use Rattle.iceoryx2_world.specs.World.{World}
use Rattle.iceoryx2_world.specs.Steps.{last_number}
use Rattle.iceoryx2_access.specs.Counts.{count_up}
use Rattle.iceoryx2_access.specs.Letter.{Letter}
use Rattle.iceoryx2_access.specs.MayRefuse.{MayRefuse}
use Rattle.iceoryx2_access.specs.Run.{Run}
use Rattle.iceoryx2_world.specs.declared.batches.Step.{Step}
use Rattle.iceoryx2_world.specs.Batches.{effect, needs_room, NeedsNoRoom, IsPeerStep, forbidden, acts, starves}
use Rattle.iceoryx2_world.specs.Batches.{removes_segment, removes_description, leaves, reads_again, joins_again}
use Rattle.iceoryx2_world.specs.Acts as act
use Rattle.iceoryx2_world.specs.declared.world.Phase.{Phase}
use Rattle.iceoryx2_world.specs.Tables.{TableState, IsTableAccess}
use Rattle.iceoryx2_world.specs.Laws.{CountsSkipped, HasItsEffect}
use Rattle.iceoryx2_access.proofs.Run as runs

-- at least k, and at most the last number
abbrev pub IsCount : ℕ → ℕ → Type 0
IsCount k n = (k ≤ n) × (n ≤ last_number)

one_more_counts : (k n : ℕ) → IsCount k n → IsCount k (count_up n)
one_more_counts k n c = (omega (arith, c.0, c.1), omega arith)

step_counts : (k : ℕ) (s t : World × ℕ) (x : Step) → IsPeerStep s x t → IsCount k s.1 → IsCount k t.1
step_counts k s t x (forbidden e is) c = subst (IsCount k) (sym (ap (λ p. p.1) is)) c
step_counts k s t x (acts ok e same) c = subst (IsCount k) (sym same) c
step_counts k s t x (starves v e wants is) c = subst (IsCount k) (sym (ap (λ p. p.1) is)) (one_more_counts k s.1 c)

access_counts : (k : ℕ) (s t : TableState) (l : Letter) → MayRefuse IsTableAccess s l t → IsCount k s.skipped → IsCount k t.skipped
access_counts k s t l (inl a) c = runs.run_keeps (λ p. IsCount k p.1) (step_counts k) a.batch c
access_counts k s t l (inr e) c = subst (λ u. IsCount k u.skipped) (sym e.1) c

pub run_counts : {s t : TableState} {word : List Letter} → CountsSkipped s t word
run_counts {s = s} r small = runs.run_keeps (λ u. IsCount s.skipped u.skipped) (access_counts s.skipped) r (omega arith, small)

needs_none : {a : act.Act} {f : Phase} → NeedsNoRoom a f → needs_room a f ≡ false
needs_none removes_segment = refl
needs_none removes_description = refl
needs_none leaves = refl
needs_none reads_again = refl
needs_none joins_again = refl

pub sure_step : HasItsEffect
sure_step s t x free (forbidden e is) = is ∙ ap (λ o. (unwrap_or o s.0, s.1)) (sym e)
sure_step s t x free (acts ok e same) = (λ j. (unwrap_or (sym e j) s.0, same j))
sure_step s t x free (starves v e wants is) = absurd (grind (arith, wants, needs_none free))
