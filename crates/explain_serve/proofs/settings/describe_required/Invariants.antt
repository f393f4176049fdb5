use Rattle.std.proofs.Common.{◌≡◌, ◌++◌, length, string_bytes}
use Rattle.explain_serve.specs.Settings.{required_lines}
use Rattle.explain_serve.proofs.settings.describe_required.Given as goal

abbrev pub invariant-loop-setter : goal.invariant-loop-setter
invariant-loop-setter g l =
    string_bytes l.text ++ required_lines g.S.Compare.compared l.existing l.reason l.left
    ≡ string_bytes l.fn.text ++ required_lines g.S.Compare.compared l.existing l.reason l.setters

abbrev pub decreases-loop-setter : goal.decreases-loop-setter
decreases-loop-setter g l = length l.left
