-- What a table with waiting batches does, in its world.
use Rattle.std.proofs.Common.{◌≡◌, ℕ, Bool, zero, suc, List, [], ◌∷◌, length, drop, refl, sym, ap, subst, ◌∙◌}
use Rattle.iceoryx2_world.specs.World.{World}
use Rattle.iceoryx2_world.specs.Access.{IsOwnPart}
use Rattle.iceoryx2_world.specs.Agreement.{KeepsAgreement}
use Rattle.iceoryx2_world.specs.Interference.{Others, nobody, peer_acts, After, everyone}
use Rattle.iceoryx2_world.specs.Laws.{BatchIsOfOthers, RunsInWorld, RunsRefusablyInWorld, RunsAlone, OwnPartIsAccess, TakesBatchesOff}
use Rattle.iceoryx2_world.proofs.agreement.Accesses.{access_keeps, refusable}
use Rattle.iceoryx2_world.proofs.agreement.Interference.{among_others}
use Rattle.iceoryx2_access.specs.Letter.{Letter}
use Rattle.iceoryx2_access.specs.MayRefuse.{MayRefuse}
use Rattle.iceoryx2_access.specs.Run.{Run, done, next}
use Rattle.iceoryx2_world.specs.declared.batches.Step.{Step}
use Rattle.iceoryx2_world.specs.Batches.{act_of, IsPeerStep, forbidden, acts, starves, IsBatch}
use Rattle.iceoryx2_world.specs.Tables.{TableState, next_batch, later_batches, IsBatchRun, IsTableAccess}
use Rattle.iceoryx2_access.proofs.Run.{run_map}
use Rattle.iceoryx2_world.proofs.Runs.{run_map_where, refusable_map}

module _ {own : ℕ → Bool} where
  step_others : {s t : World × ℕ} {x : Step} {w : World} → IsPeerStep s x t → Others own t.0 w → Others own s.0 w
  step_others {w = w} (forbidden e is) more = subst (λ p. Others own p w) (ap (λ p. p.0) is) more
  step_others {x = x} (acts ok e same) more = peer_acts x.peer x.hash (act_of x.act) ok e more
  step_others {w = w} (starves v e wants is) more = subst (λ p. Others own p w) (ap (λ p. p.0) is) more

  pub batch_others : {s t : World × ℕ} {batch : List Step} → BatchIsOfOthers own s t batch
  batch_others done = nobody
  batch_others (next h more) = step_others h (batch_others more)

  pub table_access : (s t : TableState) (l : Letter) → IsTableAccess s l t → After (Others own) IsOwnPart s.world l t.world
  table_access s t l a = record { between = a.between; before = batch_others a.batch; part = a.own }

  pub table_run : {s t : TableState} {word : List Letter} → RunsInWorld own s t word
  table_run r = run_map (λ s. s.world) table_access r

  pub refusable_access : (s t : TableState) (l : Letter) → MayRefuse IsTableAccess s l t → After (Others own) (MayRefuse IsOwnPart) s.world l t.world
  refusable_access s t l a = refusable (λ w. nobody) s.world l t.world (refusable_map IsTableAccess (After (Others own) IsOwnPart) (λ s. s.world) table_access s t l a)

  pub refusable_run : {s t : TableState} {word : List Letter} → RunsRefusablyInWorld own s t word
  refusable_run r = run_map (λ s. s.world) refusable_access r

-- no step changes nothing
no_steps : {s t : World × ℕ} → IsBatch s [] t → t ≡ s
no_steps done = refl

-- nothing waits, and so many were skipped
abbrev pub IsIdle : ℕ → TableState → Type 0
IsIdle k s = (s.waiting ≡ []) × (s.skipped ≡ k)

idle_access : (k : ℕ) (s t : TableState) (l : Letter) → IsIdle k s → IsTableAccess s l t → IsOwnPart s.world l t.world × IsIdle k t
idle_access k s t l idle a =
    let same = no_steps (subst (λ b. IsBatch (s.world, s.skipped) (next_batch b) (a.between, t.skipped)) idle.0 a.batch) in
    (subst (λ w. IsOwnPart w l t.world) (ap (λ p. p.0) same) a.own, (a.rest ∙ ap later_batches idle.0, ap (λ p. p.1) same ∙ idle.1))

pub idle_run : {s t : TableState} {word : List Letter} → RunsAlone s t word
idle_run {s = s} e r = run_map_where (λ s. s.world) (IsIdle s.skipped) (idle_access s.skipped) (e, refl) r

-- where nothing waits the next batch changes nothing
pub no_batch : (s t : TableState) → s.waiting ≡ [] → t ≡ s → IsBatchRun s t
no_batch s t e same = subst (IsBatchRun s) (sym same) (record {
  batch = subst (λ b. IsBatch (s.world, s.skipped) (next_batch b) (s.world, s.skipped)) (sym e) done;
  rest = e ∙ ap later_batches (sym e);
})

-- the next batch, and then an own part
pub access_after : (s u t : TableState) (l : Letter) → IsBatchRun s u → IsOwnPart u.world l t.world → t.waiting ≡ u.waiting → t.skipped ≡ u.skipped → IsTableAccess s l t
access_after s u t l r own waiting skipped = record {
  between = u.world;
  batch = subst (λ k. IsBatch (s.world, s.skipped) (next_batch s.waiting) (u.world, k)) (sym skipped) r.batch;
  rest = waiting ∙ r.rest;
  own = own;
}

-- an own part alone is an access where nothing waits
pub own_access : OwnPartIsAccess
own_access s l w e own = record {
  between = s.world;
  batch = subst (λ b. IsBatch (s.world, s.skipped) (next_batch b) (s.world, s.skipped)) (sym e) done;
  rest = e ∙ ap later_batches (sym e);
  own = own;
}

drop_later : (n : ℕ) (b : List (List Step)) → drop n (later_batches b) ≡ drop (suc n) b
drop_later zero [] = refl
drop_later (suc n) [] = refl
drop_later n (x ∷ more) = refl

-- each access takes one batch off
pub waiting_after : {s t : TableState} {word : List Letter} → TakesBatchesOff s t word
waiting_after done = refl
waiting_after {s = s} (next {word = word} a rest) = waiting_after rest ∙ ap (drop (length word)) a.rest ∙ drop_later (length word) s.waiting

pub table_keeps : (s t : TableState) (l : Letter) → IsTableAccess s l t → KeepsAgreement s.world t.world
table_keeps s t l a old = access_keeps s.world l t.world (among_others everyone s.world l t.world (table_access s t l a)) old
