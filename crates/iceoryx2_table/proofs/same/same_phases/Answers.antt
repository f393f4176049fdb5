use Rattle.std.proofs.Common.{◌≤◌, ◌⊎◌, inl, inr, sym, ◌∙◌, length}
use Rattle.iceoryx2_table.proofs.Alike.{by_answer, differ, none_here, some_here}
use Rattle.iceoryx2_table.proofs.same.same_phases.Goals as goal
use Rattle.iceoryx2_table.proofs.same.same_phases.Goals.{then-loop-mine-test+else-other-theirs, else-loop-mine-test}

pub returns-else-eq : goal.returns-else-eq
returns-else-eq c = by_answer c.args.ours.now c.args.theirs.now
    (differ c.args.ours.now c.args.theirs.now c.loop-mine.mine c.loop-mine.other _ _ c.loop-mine-test.true c.if-other-theirs.true
    (sym c.begins.ensures ∙ c.if-begins.false) (sym c.begins-else-begins.ensures ∙ c.if-begins-2.false) (sym c.eq.ensures ∙ c.if-eq.false) c.loop-mine.invariant.same)

pub returns-then-not-has_settled : goal.returns-then-not-has_settled
returns-then-not-has_settled c =
    let end : (length c.args.ours.now ≤ c.loop-mine.mine) ⊎ (length c.args.theirs.now ≤ c.loop-mine.other) = elim c.loop-mine-test.branch [ then-loop-mine-test+else-other-theirs w ↦ inr w.if-other-theirs.false | else-loop-mine-test w ↦ inl w.loop-mine-test.false ] in
    none_here c.args.ours.now c.args.theirs.now c.loop-mine.mine c.loop-mine.other end c.loop-mine.invariant.same c.has_settled.ensures c.has_settled-then-not-has_settled.ensures c.if-not-has_settled.true

pub returns-else-not-has_settled : goal.returns-else-not-has_settled
returns-else-not-has_settled c =
    let end : (length c.args.ours.now ≤ c.loop-mine.mine) ⊎ (length c.args.theirs.now ≤ c.loop-mine.other) = elim c.loop-mine-test.branch [ then-loop-mine-test+else-other-theirs w ↦ inr w.if-other-theirs.false | else-loop-mine-test w ↦ inl w.loop-mine-test.false ] in
    some_here c.args.ours.now c.args.theirs.now c.loop-mine.mine c.loop-mine.other end c.loop-mine.invariant.same c.has_settled.ensures c.if-not-has_settled.false
