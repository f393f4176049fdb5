use Rattle.std.proofs.Common.{◌≡◌, ◌++◌, IsUtf8, chars, string_bytes}
use Rattle.std.specs.Str.Iter.{chars_rest}
use Rattle.negotiate_lines.specs.Escapes.{shown_front}
use Rattle.negotiate_lines.proofs.escape.escape_front.Given as goal

abbrev pub invariant-loop-character : goal.invariant-loop-character
invariant-loop-character l =
    IsUtf8 (chars_rest l.character-iterator)
    × (string_bytes l.text ++ shown_front l.left (chars (chars_rest l.character-iterator))
    ≡ string_bytes l.fn.text ++ shown_front 64 (chars l.fn.word))
