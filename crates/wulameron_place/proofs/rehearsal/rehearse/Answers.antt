use Rattle.std.proofs.Common.{inl, inr, refl}
use Rattle.wulameron_place.proofs.Rehearsing.{none_yet, one_more_step}
use Rattle.wulameron_place.proofs.rehearsal.rehearse.Goals as goal

pub loop-init : goal.loop-init
loop-init c = none_yet refl

pub loop-preserved : goal.loop-preserved
loop-preserved c = one_more_step c.loop.invariant c.in-Gave.ensures c.with-cleaned.ensures

pub returns-in-Refused : goal.returns-in-Refused
returns-in-Refused c = (c.loop.cleaned, c.loop.world, c.loop.invariant, inr c.in-Refused.ensures)

pub returns : goal.returns
returns c = (c.loop.cleaned, c.loop.world, c.loop.invariant, inl refl)
