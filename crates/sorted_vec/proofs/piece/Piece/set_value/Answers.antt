use Rattle.std.proofs.Common.{rules, sym, ap, ◌≡◌, ◌∙◌, get_or, set}
use Rattle.finite_map.proofs.Flats.{with_value_is}
use Rattle.sorted_vec.proofs.piece.Piece.set_value.Goals as goal

pub returns : goal.returns
returns g c =
    let es = c.self.inside.entries.items in
    let e = c.index_mut.result.now in
    let read : get_or es c.args.at e ≡ e = search rules in
    rw (← c.self.view_is) (ap (λ (x : g.row.K.Denot × g.row.V.Denot). set es c.args.at (x.0, c.args.value)) (sym read)
    ∙ sym (with_value_is es c.args.at c.args.value e (rw (← c.self.view_is) at c.requires)))
