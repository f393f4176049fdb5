use Rattle.std.proofs.Common.{◌≡◌, ◌++◌, IsUtf8, chars, string_bytes}
use Rattle.std.specs.Str.Iter.{chars_rest}
use Rattle.std.specs.List.{flat_map}
use Rattle.explain_serve.specs.Diagrams.{escaped}
use Rattle.explain_serve.proofs.diagram.draw_text.Given as goal

abbrev pub invariant-loop-character : goal.invariant-loop-character
invariant-loop-character l =
    IsUtf8 (chars_rest l.character-iterator)
    × (string_bytes l.diagram ++ flat_map escaped (chars (chars_rest l.character-iterator))
    ≡ string_bytes l.fn.diagram ++ flat_map escaped (chars l.fn.text))
