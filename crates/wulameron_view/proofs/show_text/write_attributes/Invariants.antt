use Rattle.std.proofs.Common.{◌≡◌, ◌++◌, take, string_bytes}
use Rattle.std.specs.List.{flat_map}
use Rattle.wulameron_view.specs.ShowTexts.{attribute_line}
use Rattle.wulameron_view.proofs.show_text.write_attributes.Given as goal

abbrev pub invariant-loop-pair : goal.invariant-loop-pair
invariant-loop-pair l = string_bytes l.text ≡ string_bytes l.fn.text ++ flat_map attribute_line (take l.pair-index l.pairs)
