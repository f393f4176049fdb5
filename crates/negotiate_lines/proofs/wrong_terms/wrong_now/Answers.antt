use Rattle.std.proofs.Common.{◌≡◌, true, refl, sym, subst, arith}
use Rattle.negotiate_lines.specs.Commands.{admitted_of}
use Rattle.negotiate_lines.proofs.WrongTerms.{no_time}
use Rattle.negotiate_lines.proofs.wrong_terms.wrong_now.Goals as goal

pub returns-in-Create : goal.returns-in-Create
returns-in-Create g c =
    let v = g.V.HasVocabulary.vocabulary in
    let on : v.has_clock ≡ true = grind (arith, c.has_clock.ensures, c.if-not-has_clock.false) in
    (refl, refl, no_time c.args.form v c.args.how c.args.value.now (subst (λ h. (admitted_of v.has_clock h).now ≡ true) (sym c.in-Create.is) on) c.requires)

pub returns-in-OpenOrCreate : goal.returns-in-OpenOrCreate
returns-in-OpenOrCreate g c =
    let v = g.V.HasVocabulary.vocabulary in
    let on : v.has_clock ≡ true = grind (arith, c.has_clock.ensures, c.if-not-has_clock.false) in
    (refl, refl, no_time c.args.form v c.args.how c.args.value.now (subst (λ h. (admitted_of v.has_clock h).now ≡ true) (sym c.in-OpenOrCreate.is) on) c.requires)
