use Rattle.std.proofs.Common.{rules, subst}
use Rattle.iceoryx2_attribute.specs.Additions.{HasKeyLength, HasValueLength}
use Rattle.iceoryx2_attribute.specs.Attributes.{AreAttributes, pair_of}
use Rattle.iceoryx2_attribute.proofs.Pairs.{is_pair}
use Rattle.iceoryx2_attribute.proofs.Additions.{wrong_key, wrong_value}
use Rattle.iceoryx2_attribute.proofs.attribute.set.AttributeSet.add.Goals as goal

pub returns-then-not-has_key_length-clause-answer : goal.returns-then-not-has_key_length-clause-answer
returns-then-not-has_key_length-clause-answer c =
    let wrong : HasKeyLength c.args.key.now → ⊥ = search rules in
    wrong_key c.args.self.now (pair_of c.args.key.now c.args.value.now) (subst AreAttributes c.self.view_is c.self.invariant) wrong

pub returns-then-not-has_value_length-clause-answer : goal.returns-then-not-has_value_length-clause-answer
returns-then-not-has_value_length-clause-answer c =
    let key : HasKeyLength c.args.key.now = search rules in
    let wrong : HasValueLength c.args.value.now → ⊥ = search rules in
    wrong_value c.args.self.now (pair_of c.args.key.now c.args.value.now) (subst AreAttributes c.self.view_is c.self.invariant) key wrong

pub insert-requires-clause-pair : goal.insert-requires-clause-pair
insert-requires-clause-pair c =
    let key : HasKeyLength c.args.key.now = search rules in
    let value : HasValueLength c.args.value.now = search rules in
    is_pair (pair_of c.args.key.now c.args.value.now) key value c.utf8.key c.utf8.value
