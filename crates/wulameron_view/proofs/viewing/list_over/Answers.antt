use Rattle.wulameron_view.proofs.viewing.list_over.Goals as goal

pub returns : goal.returns
returns g c =
    record { looked = c.print_list-looked.result; looks = c.print_list-looked.ensures; ends = c.end_look.ensures }
