use Rattle.std.proofs.Common.{◌∷◌, codes, refl, sym, ap, ◌∙◌}
use Rattle.iceoryx2_builder.specs.Commands.{slot_count}
use Rattle.negotiate_lines.specs.Commands.{IsCommandOf}
use Rattle.negotiate_lines.specs.Terms.{IsNumber, terms_of}
use Rattle.negotiate_lines.specs.Wrongs.{WrongSlot, WrongTerms, at_slot, behind_slot}
use Rattle.negotiate_lines.proofs.Judging.{passed_first, not_empty, same_others}
use Rattle.negotiate_lines.proofs.OneCommand.{only_close}
use Rattle.negotiate_lines.proofs.line.judge_close.Goals as goal

pub returns-in_err-slot : goal.returns-in_err-slot
returns-in_err-slot c =
    let terms = terms_of c.args.others.now in
    passed_first (IsNumber slot_count) WrongSlot terms (IsCommandOf c.args.form (codes "close" ∷ terms)) (WrongTerms c.args.form (codes "close" ∷ terms)) _ _
    c.from_residual.ensures.1 c.in_err-slot.ensures
    (λ none some_command is_such. let closed = only_close c.args.form terms some_command is_such in none closed.0 _ closed.1)
    (λ w is. at_slot terms refl is)

pub returns-in-Some : goal.returns-in-Some
returns-in-Some c =
    let terms = terms_of c.args.others.now in
    let slot = c.in_ok-slot.ensures in (
      λ some_command is_such. let closed = only_close c.args.form terms some_command is_such in not_empty (sym (same_others (sym slot.1 ∙ closed.1.1)) ∙ c.in-Some.ensures.term),
      behind_slot slot.0 _ (ap (λ ts. codes "close" ∷ ts) (slot.1 ∙ ap (λ ts. slot.0 ∷ ts) c.in-Some.ensures.term)) (c.in_ok-slot.slot, slot.2),
    )
