use Rattle.std.proofs.Common.{◌≡◌, drop}
use Rattle.serde_json.specs.Data.{no_members}
use Rattle.serde_json.specs.View.{members_view}
use Rattle.wulameron_view.specs.Data.{with_leaves}
use Rattle.wulameron_view.proofs.json.leaves.Given as goal

abbrev pub invariant-loop-leaf : goal.invariant-loop-leaf
invariant-loop-leaf l =
    with_leaves (drop l.leaf-index l.leaves) (members_view l.members.entries) ≡ with_leaves l.leaves no_members
