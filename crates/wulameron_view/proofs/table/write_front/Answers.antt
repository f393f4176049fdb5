use Rattle.std.proofs.Common.{◌≡◌, ◌++◌, sym, ap, ◌∙◌, append_assoc, append-nil, arith, chars, string_bytes}
use Rattle.std.proofs.lemmas.Str.{IsUtf8-past_char, chars_past_char}
use Rattle.std.proofs.StrCases.{chars_of_empty}
use Rattle.wulameron_view.specs.Tables.{ellipsis, front}
use Rattle.wulameron_view.proofs.Columns.{no_character, no_front, one_character}
use Rattle.wulameron_view.proofs.Grown.{grown}
use Rattle.wulameron_view.proofs.table.write_front.Goals as goal

pub returns-then-taken-left : goal.returns-then-taken-left
returns-then-taken-left c =
    let held = c.loop-character.invariant in
    let parts = c.in-Some.ensures.steps.0 in
    let whole = rw (chars_past_char _ _ c.in-Some.character held.0 parts) at held.1 in
    let cut = rw (no_character c.loop-character.left c.in-Some.character c.character_columns-taken.result _ c.character_columns-taken.ensures (omega (arith, c.if-taken-left.true))) at whole in
    grown (string_bytes c.loop-character.text) (string_bytes c.write_ellipsis.new.text) ellipsis (string_bytes c.args.text.now ++ front c.args.width (chars c.args.cell.now))
    cut c.write_ellipsis.result c.write_ellipsis.ensures

pub loop-character-preserved : goal.loop-character-preserved
loop-character-preserved c =
    let held = c.loop-character.invariant in
    let parts = c.in-Some.ensures.steps.0 in
    let whole = rw (chars_past_char _ _ c.in-Some.character held.0 parts) at held.1 in (
      IsUtf8-past_char _ _ c.in-Some.character held.0 parts,
      rw (c.in_ok-push.ensures.bytes, append_assoc)
          (rw (one_character c.loop-character.left c.in-Some.character c.character_columns-taken.result _ c.character_columns-taken.ensures (omega (arith, c.if-taken-left.false))) at whole),
    )

pub returns : goal.returns
returns c =
    sym (append-nil _) ∙ ap (λ rest. string_bytes c.loop-character.text ++ rest) (sym (no_front c.loop-character.left))
    ∙ rw (chars_of_empty _ c.in-None.ensures.steps.0.0) at c.loop-character.invariant.1
