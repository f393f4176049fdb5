use Rattle.std.proofs.Common.{ℕ, ◌∷◌, refl, ap, sym, subst, arith, length, List, ◌∙◌}
use Rattle.wulameron_serve.specs.Own.{EndsTerm}
use Rattle.wulameron_serve.proofs.OwnTerms.{own_only_there, own_there, same_behind, same_byte}
use Rattle.wulameron_serve.proofs.own_lines.own_place.Goals as goal

pub returns-in_default : goal.returns-in_default
returns-in_default c = λ before behind at.
    let there = own_only_there c.args.line.now c.from_third-third.result.now before behind c.from_third-third.ensures at in
    omega (arith, c.in_default.ensures.cases, ap (λ (t : List ℕ). length t) there.1)

pub returns-then-first-ne45 : goal.returns-then-first-ne45
returns-then-first-ne45 c = λ before behind at.
    let there = own_only_there c.args.line.now c.from_third-third.result.now before behind c.from_third-third.ensures at in
    c.if-first-ne45.true (same_byte c.in-Some.first.now 45 c.in-Some.behind.now there.0 (sym c.in-Some.ensures.cases.0 ∙ there.1))

pub returns-then-not-ends_term : goal.returns-then-not-ends_term
returns-then-not-ends_term c = λ before behind at.
    let there = own_only_there c.args.line.now c.from_third-third.result.now before behind c.from_third-third.ensures at in
    cc (c.if-not-ends_term.ensures.1
    (subst EndsTerm (sym (same_behind c.in-Some.first.now 45 c.in-Some.behind.now there.0 (sym c.in-Some.ensures.cases.0 ∙ there.1))) there.2))

pub returns : goal.returns
returns c =
    own_there c.args.line.now c.from_third-third.result.now c.in-Some.behind.now c.from_third-third.ensures
    (c.in-Some.ensures.cases.0 ∙ ap (λ (b : ℕ). b ∷ c.in-Some.behind.now) c.if-first-ne45.false) (c.if-not-ends_term.ensures.0 refl)
