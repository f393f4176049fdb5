use Rattle.std.proofs.Common.{sym, ◌∙◌, append_assoc, append-nil}
use Rattle.std.proofs.lemmas.Str.{IsUtf8-past_char, chars_past_char}
use Rattle.std.proofs.StrCases.{chars_of_empty}
use Rattle.explain_serve.proofs.diagram.draw_text.Goals as goal

pub loop-character-preserved : goal.loop-character-preserved
loop-character-preserved c =
    let held = c.loop-character.invariant in
    let parts = c.in-Some.ensures.steps.0 in (
      IsUtf8-past_char _ _ c.in-Some.character held.0 parts,
      rw (c.in_ok-draw_character.ensures, append_assoc) (rw (chars_past_char _ _ c.in-Some.character held.0 parts) at held.1),
    )

pub returns : goal.returns
returns c = sym (append-nil _) ∙ rw (chars_of_empty _ c.in-None.ensures.steps.0.0) at c.loop-character.invariant.1
