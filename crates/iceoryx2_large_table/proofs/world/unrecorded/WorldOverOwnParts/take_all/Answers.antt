use Rattle.std.proofs.Common.{ℕ, List, sym, subst, take, ap, ◌∙◌, ◌++◌, ◌∷◌, [], arith}
use Rattle.std.proofs.lemmas.List.{take_all, take_more}
use Rattle.iceoryx2_access.specs.Run.{done}
use Rattle.iceoryx2_access.proofs.Run.{both, one}
use Rattle.iceoryx2_world.specs.World.{World}
use Rattle.iceoryx2_world.specs.declared.batches.Step.{Step}
use Rattle.iceoryx2_world.specs.Batches.{IsBatch}
use Rattle.iceoryx2_large_table.proofs.world.unrecorded.WorldOverOwnParts.take_all.Goals as goal

pub loop-step-init : goal.loop-step-init
loop-step-init g c = done

pub loop-step-preserved : goal.loop-step-preserved
loop-step-preserved g c =
    let batch = c.args.batch.now in
    let i = c.loop-step.step-index in
    let x = c.step-item.result in
    let s : World × ℕ = (c.args.self.now, c.args.skipped) in
    let t : World × ℕ = (c.take-count.new.self, c.take-count.result) in
    subst (λ (b : List Step). IsBatch s b t)
    (ap (λ (y : Step). take i batch ++ y ∷ []) c.step-item.is ∙ sym (take_more batch i x c.loop-step-test.true))
    (both c.loop-step.invariant (one c.take-count.ensures))

pub returns : goal.returns
returns g c = subst (λ (b : List Step). IsBatch (c.args.self.now, c.args.skipped) b (c.loop-step.self, c.loop-step.count)) (take_all c.loop-step.step-index c.args.batch.now (omega arith)) c.loop-step.invariant
