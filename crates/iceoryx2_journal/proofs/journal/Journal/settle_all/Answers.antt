use Rattle.std.proofs.Common.{◌∙◌, refl}
use Rattle.iceoryx2_journal.proofs.Settled.{all_settled, cut_off, none_settled, not_settled, one_settled}
use Rattle.iceoryx2_journal.proofs.journal.Journal.settle_all.Goals as goal

pub loop-init : goal.loop-init
loop-init g c = (none_settled c.nothing-cleaned.ensures, refl)

pub loop-preserved : goal.loop-preserved
loop-preserved g c =
    (one_settled c.loop.invariant.0 c.in-Gave.ensures.next c.with-cleaned.ensures, c.in-Gave.ensures.hold ∙ c.loop.invariant.1)

pub returns-in-Finished-clause-settles : goal.returns-in-Finished-clause-settles
returns-in-Finished-clause-settles g c = all_settled c.loop.invariant.0 c.in-Finished.ensures.next.0

pub returns-in-Refused-clause-settles : goal.returns-in-Refused-clause-settles
returns-in-Refused-clause-settles g c = not_settled c.loop.invariant.0 c.in-Refused.ensures.next

pub returns-clause-settles : goal.returns-clause-settles
returns-clause-settles g c = cut_off c.loop.invariant.0
