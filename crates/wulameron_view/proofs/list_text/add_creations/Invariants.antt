use Rattle.std.proofs.Common.{◌≡◌, ◌++◌, map, take}
use Rattle.wulameron_view.specs.ListTexts.{creation_cells}
use Rattle.wulameron_view.proofs.list_text.add_creations.Given as goal

abbrev pub invariant-loop-creation : goal.invariant-loop-creation
invariant-loop-creation l = l.lines.items ≡ l.fn.lines.items ++ map (creation_cells l.states) (take l.creation-index l.creations)
