use Rattle.wulameron_view.proofs.viewing.show_over.Goals as goal

pub returns : goal.returns
returns g c =
    record { looked = c.print_show-looked.result; looks = c.print_show-looked.ensures; ends = c.end_look.ensures }
