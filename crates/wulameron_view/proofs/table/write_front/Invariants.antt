use Rattle.std.proofs.Common.{◌≡◌, ◌++◌, IsUtf8, chars, string_bytes}
use Rattle.std.specs.Str.Iter.{chars_rest}
use Rattle.wulameron_view.specs.Tables.{front}
use Rattle.wulameron_view.proofs.table.write_front.Given as goal

abbrev pub invariant-loop-character : goal.invariant-loop-character
invariant-loop-character l =
    IsUtf8 (chars_rest l.character-iterator)
    × (string_bytes l.text ++ front l.left (chars (chars_rest l.character-iterator))
    ≡ string_bytes l.fn.text ++ front l.width (chars l.fn.cell))
