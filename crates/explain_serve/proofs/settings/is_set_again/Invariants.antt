use Rattle.std.proofs.Common.{◌≡◌, false, take}
use Rattle.explain_serve.specs.Settings.{is_set_again}
use Rattle.explain_serve.proofs.settings.is_set_again.Given as goal

abbrev pub invariant-loop-other : goal.invariant-loop-other
invariant-loop-other g l = is_set_again g.S.Compare.compared l.existing l.name (take l.other-index l.later) ≡ false
