use Rattle.std.proofs.Common.{true, false}
use Rattle.iceoryx2_table.proofs.Recording.{description_removal}
use Rattle.iceoryx2_large_table.proofs.world.WorldOver.remove_description.Goals as goal

pub returns-then-remove_description : goal.returns-then-remove_description
returns-then-remove_description g c = description_removal c.args.node c.args.hash.now c.self.view_is _ true c.if-remove_description.true c.remove_description.ensures

pub returns : goal.returns
returns g c = description_removal c.args.node c.args.hash.now c.self.view_is _ false c.if-remove_description.false c.remove_description.ensures
