use Rattle.iceoryx2_journal.proofs.Begins.{still_all, all_both, fails_later}
use Rattle.iceoryx2_journal.proofs.journal.Journal.begin_look.Goals as goal

pub loop-number-preserved : goal.loop-number-preserved
loop-number-preserved g c =
    let paused = c.if-not-has_paused.ensures in
    let begun = c.if-not-begin-2.ensures.begins in
    (begun.0, all_both (still_all paused.same paused.log c.loop-number.invariant.1) begun.1)

pub returns-then-not-begin-2-clause-begins : goal.returns-then-not-begin-2-clause-begins
returns-then-not-begin-2-clause-begins g c =
    let paused = c.if-not-has_paused.ensures in
    let so_far = c.loop-number.invariant in
    fails_later (so_far.0, still_all paused.same paused.log so_far.1) c.if-not-begin-2.ensures.begins
