use Rattle.wulameron_place.specs.Rehearsal.{RehearsesSome}
use Rattle.wulameron_place.proofs.rehearsal.rehearse.Given as goal

abbrev pub invariant-loop : goal.invariant-loop
invariant-loop l = RehearsesSome l.node l.fn.world l.cleaned l.world
