use Rattle.wulameron_view.proofs.viewing.nodes_over.Goals as goal

pub returns : goal.returns
returns g c =
    record { looked = c.print_nodes-looked.result; looks = c.print_nodes-looked.ensures; ends = c.end_look.ensures }
