use Rattle.std.proofs.Common.{◌≡◌, ◌++◌, take, string_bytes}
use Rattle.std.specs.List.{flat_map}
use Rattle.wulameron_view.specs.ListTexts.{line_text}
use Rattle.wulameron_view.proofs.list_text.write_lines.Given as goal

abbrev pub invariant-loop-line : goal.invariant-loop-line
invariant-loop-line l =
    string_bytes l.text ≡ string_bytes l.fn.text ++ flat_map (line_text l.is_coloured l.widths) (take l.line-index l.lines)
