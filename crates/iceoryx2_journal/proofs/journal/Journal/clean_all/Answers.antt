use Rattle.std.proofs.Common.{◌∙◌, inl, inr, refl}
use Rattle.iceoryx2_journal.proofs.GivingBack.{none_yet, one_more_step}
use Rattle.iceoryx2_journal.proofs.journal.Journal.clean_all.Goals as goal

pub loop-init : goal.loop-init
loop-init g c = (none_yet c.nothing-cleaned.ensures, refl)

pub loop-preserved : goal.loop-preserved
loop-preserved g c =
    (one_more_step c.loop.invariant.0 c.in-Gave.ensures.next c.with-cleaned.ensures, c.in-Gave.ensures.hold ∙ c.loop.invariant.1)

pub returns-in-Finished-clause-all : goal.returns-in-Finished-clause-all
returns-in-Finished-clause-all g c = (c.loop.self, c.loop.invariant.0, c.in-Finished.ensures.next)

pub returns-in-Refused-clause-all : goal.returns-in-Refused-clause-all
returns-in-Refused-clause-all g c = (refl, c.loop.cleaned, c.loop.self, c.loop.invariant.0, inr c.in-Refused.ensures.next)

pub returns-clause-all : goal.returns-clause-all
returns-clause-all g c = (refl, c.loop.cleaned, c.loop.self, c.loop.invariant.0, inl refl)
