use Rattle.std.proofs.Common.{◌∙◌, ap}
use Rattle.wulameron_view.specs.Nodes.{nodes_in}
use Rattle.wulameron_view.proofs.looking.nodes_in.Goals as goal

pub returns-clause-nodes : goal.returns-clause-nodes
returns-clause-nodes c =
    record {
      nodes = c.in_ok-nodes.nodes.items;
      stand = c.in_ok-nodes.ensures;
      is = c.in_ok-nodes_all.ensures ∙ ap (λ ns. nodes_in c.args.shown.is_coloured c.args.shown.form ns) c.deref.ensures.value;
    }
