use Rattle.std.proofs.Common.{◌≡◌, ◌++◌, IsUtf8, chars, string_bytes}
use Rattle.std.specs.Str.Iter.{chars_rest}
use Rattle.std.specs.List.{flat_map}
use Rattle.negotiate_lines.specs.Escapes.{escaped_character}
use Rattle.negotiate_lines.proofs.escape.escape_characters.Given as goal

abbrev pub invariant-loop-character : goal.invariant-loop-character
invariant-loop-character l =
    IsUtf8 (chars_rest l.character-iterator)
    × (string_bytes l.text ++ flat_map escaped_character (chars (chars_rest l.character-iterator))
    ≡ string_bytes l.fn.text ++ flat_map escaped_character (chars l.fn.source))
