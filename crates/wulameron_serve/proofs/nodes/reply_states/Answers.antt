use Rattle.std.proofs.Common.{List, string_bytes, subst, sym}
use Rattle.wulameron_serve.specs.Nodes.{IsNodesReply, nodes_reply, told}
use Rattle.wulameron_serve.proofs.NodeAnswers.{grows_by}
use Rattle.wulameron_view.specs.States.{AreStandings}
use Rattle.wulameron_view.specs.declared.states.NodeStanding.{NodeStanding}
use Rattle.wulameron_serve.proofs.nodes.reply_states.Goals as goal

pub returns : goal.returns
returns c =
    let stand = subst (λ (ns : List NodeStanding). AreStandings c.args.world.now c.args.states.now ns) (sym c.deref.ensures.value) c.in_ok-nodes.ensures in
    grows_by (IsNodesReply c.args.world.now) (nodes_reply c.deref.result.now) (told stand)
    c.reply_nodes.result (string_bytes c.args.text.now) (string_bytes c.reply_nodes.new.text) c.reply_nodes.ensures
