use Rattle.std.proofs.Common.{rules}
use Rattle.iceoryx2_attribute.proofs.Pairs.{ascends_behind}
use Rattle.iceoryx2_attribute.proofs.attribute.set.last_is_before.Goals as goal

pub returns-in-Some : goal.returns-in-Some
returns-in-Some c = search (rules, ascends_behind)
