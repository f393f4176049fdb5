use Rattle.std.proofs.Common.{◌≡◌, take}
use Rattle.wulameron_view.specs.ListTexts.{cell_of}
use Rattle.wulameron_view.specs.Tables.{width_of}
use Rattle.wulameron_view.proofs.list_text.widest.Given as goal

abbrev pub invariant-loop-line : goal.invariant-loop-line
invariant-loop-line l = l.widest ≡ width_of (cell_of l.column) (take l.line-index l.lines)
