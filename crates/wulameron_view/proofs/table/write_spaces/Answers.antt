use Rattle.std.proofs.Common.{string_bytes}
use Rattle.wulameron_view.proofs.Columns.{no_space, one_space}
use Rattle.wulameron_view.proofs.table.write_spaces.Goals as goal

pub loop-space-init : goal.loop-space-init
loop-space-init c = no_space (string_bytes c.args.text.now)

pub loop-space-preserved : goal.loop-space-preserved
loop-space-preserved c =
    one_space (string_bytes c.args.text.now) (string_bytes c.loop-space.text) (string_bytes c.push_str.new.self) c.loop-space._space
    c.loop-space.invariant c.in_ok-push_str.ensures.bytes
