use Rattle.std.proofs.Common.{◌≡◌, true, rules, sym, subst, ◌∙◌}
use Rattle.iceoryx2_attribute.specs.Attributes.{same_pairs}
use Rattle.iceoryx2_attribute.proofs.Pairs.{same_pairs_are, same_pairs_itself}
use Rattle.iceoryx2_attribute.proofs.attribute.set.AttributeSetPartialEq.eq.Goals as goal

pub returns-clause-exact : goal.returns-clause-exact
returns-clause-exact c =
    let a = c.args.self.now in
    let b = c.args.other.now in
    let e : c.eq.result ≡ same_pairs a b = search rules in
    (λ t. same_pairs_are a b (sym e ∙ t), λ same. e ∙ subst (λ qs. same_pairs a qs ≡ true) same (same_pairs_itself a))
