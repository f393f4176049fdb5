use Rattle.std.proofs.Common.{string_bytes}
use Rattle.wulameron_serve.specs.Nodes.{IsNodesReply, refused}
use Rattle.wulameron_serve.specs.Telling.{node_why, refused_line}
use Rattle.wulameron_serve.proofs.NodeAnswers.{grows_by}
use Rattle.wulameron_serve.proofs.nodes.answer_nodes.Goals as goal

pub returns-in-Err : goal.returns-in-Err
returns-in-Err g c =
    grows_by (IsNodesReply c.args.world.now) (refused_line (node_why c.in-Err.error)) (refused c.in-Err.error)
    c.refuse_for.result (string_bytes c.args.text.now) (string_bytes c.refuse_for.new.text) c.refuse_for.ensures
