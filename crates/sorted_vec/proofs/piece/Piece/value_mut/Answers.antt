use Rattle.std.proofs.Common.{rules, sym, ap, refl, ◌≡◌, ◌∙◌, ℕ, ◌<◌, List, length, get_or, set}
use Rattle.std.proofs.lemmas.List.{get_or_default}
use Rattle.finite_map.specs.Sorted.{Sorted}
use Rattle.finite_map.specs.Chunks.{with_value_at}
use Rattle.finite_map.proofs.Flats.{with_value_is}
use Rattle.sorted_vec.proofs.piece.Piece.value_mut.Goals as goal

written : {K V : Type 0} (es : List (K × V)) (j n : ℕ) (e : K × V) (w : V) → get_or es j e ≡ e → j < length es
    → ◌≡◌ {A = Sorted K V} (record { entries = set es j (e.0, w); capacity = n }) (record { entries = with_value_at es j w; capacity = n })
written {K} {V} es j n e w read l =
    let same = ap (λ (x : K × V). set es j (x.0, w)) (sym read) ∙ sym (with_value_is es j w e l) in
    λ i. record { entries = same i; capacity = n }

pub returns : goal.returns
returns g c =
    let es = c.self.inside.entries.items in
    let x = c.index_mut.result.now in
    let read : get_or es c.args.at x ≡ x = search rules in
    let within = rw (← c.self.view_is) at c.requires in (
      (refl, λ w. rw (← c.self.view_is) (written es c.args.at _ x w read within)),
      record { writes_back = tt; value = λ e. rw (← c.self.view_is) (ap (λ (x : g.row.K.Denot × g.row.V.Denot). x.1) (sym read ∙ get_or_default es c.args.at x e within)) },
    )
