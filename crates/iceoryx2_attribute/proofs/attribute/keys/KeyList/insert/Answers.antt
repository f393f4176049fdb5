use Rattle.std.proofs.Common.{is_ok, rules}
use Rattle.iceoryx2_attribute.proofs.Keys.{after_insert}
use Rattle.iceoryx2_attribute.proofs.attribute.keys.KeyList.insert.Goals as goal

pub invariant_of-self : goal.invariant_of-self
invariant_of-self c = after_insert (is_ok c.insert.result) c.args.at c.args.key.now c.in-Ok.key c.self.view_is c.self.invariant c.requires.key (search rules) c.requires.in_range c.requires.place c.in-Ok.ensures c.insert.ensures.items

pub returns-clause-limits : goal.returns-clause-limits
returns-clause-limits c = after_insert (is_ok c.insert.result) c.args.at c.args.key.now c.in-Ok.key c.self.view_is c.self.invariant c.requires.key (search rules) c.requires.in_range c.requires.place c.in-Ok.ensures c.insert.ensures.items
