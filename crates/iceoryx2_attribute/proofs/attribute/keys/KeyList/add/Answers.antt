use Rattle.std.proofs.Common.{rules, subst}
use Rattle.iceoryx2_attribute.specs.Additions.{HasKeyLength}
use Rattle.iceoryx2_attribute.specs.Requirements.{AreKeys}
use Rattle.iceoryx2_attribute.proofs.Keys.{is_key}
use Rattle.iceoryx2_attribute.proofs.Additions.{wrong_required}
use Rattle.iceoryx2_attribute.proofs.attribute.keys.KeyList.add.Goals as goal

pub returns-then-not-has_key_length-clause-answer : goal.returns-then-not-has_key_length-clause-answer
returns-then-not-has_key_length-clause-answer c =
    let wrong : HasKeyLength c.args.key.now → ⊥ = search rules in
    wrong_required c.args.self.now c.args.key.now (subst AreKeys c.self.view_is c.self.invariant) wrong

pub insert-requires-clause-key : goal.insert-requires-clause-key
insert-requires-clause-key c =
    let key : HasKeyLength c.args.key.now = search rules in
    is_key c.args.key.now key c.utf8.key
