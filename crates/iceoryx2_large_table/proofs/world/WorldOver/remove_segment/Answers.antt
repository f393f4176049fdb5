use Rattle.std.proofs.Common.{true, false}
use Rattle.iceoryx2_table.proofs.Recording.{segment_removal}
use Rattle.iceoryx2_large_table.proofs.world.WorldOver.remove_segment.Goals as goal

pub returns-then-remove_segment : goal.returns-then-remove_segment
returns-then-remove_segment g c = segment_removal c.args.node c.args.hash.now c.self.view_is _ true c.if-remove_segment.true c.remove_segment.ensures

pub returns : goal.returns
returns g c = segment_removal c.args.node c.args.hash.now c.self.view_is _ false c.if-remove_segment.false c.remove_segment.ensures
