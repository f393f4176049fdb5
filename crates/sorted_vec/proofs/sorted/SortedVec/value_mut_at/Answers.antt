use Rattle.std.proofs.Common.{refl, sym, subst, ap}
use Rattle.finite_map.specs.Sorted.{Sorted}
use Rattle.finite_map.specs.Chunks.{StandsIn, chunk_at, with_value_at}
use Rattle.finite_map.proofs.Flats.{there}
use Rattle.sorted_vec.proofs.Index.{put_there, put_only}
use Rattle.sorted_vec.proofs.Kept.{written_kept, written_map, got_value, got_none}
use Rattle.sorted_vec.proofs.sorted.SortedVec.value_mut_at.Goals as goal

pub invariant_of-self-lent : goal.invariant_of-self-lent
invariant_of-self-lent g c w =
    let cs = c.self.inside.pieces in
    let i = c.args.place.piece in
    let stands = subst (StandsIn g.K.Ord.cmp cs c.args.key.now i) c.in-Ok.is (rw (← c.self.view_is) at c.requires).0 in
    let l = there cs i c.in-Ok.at stands.0 in
    let x : Sorted g.row.K.Denot g.row.V.Denot = record (chunk_at cs i) { entries = with_value_at (chunk_at cs i).entries c.in-Ok.at w } in
    written_kept g.K.Ord.cmp g.met.K.Ord.total cs c.self.inside.most c.self.inside.count c.self.invariant c.args.key.now i c.in-Ok.at _ (put_only cs i x l) w stands (ap (λ (y : Sorted g.row.K.Denot g.row.V.Denot). y.entries) (put_there cs i x l))

pub returns-in-Ok : goal.returns-in-Ok
returns-in-Ok g c =
    let cs = c.self.inside.pieces in
    let i = c.args.place.piece in
    let stands = subst (StandsIn g.K.Ord.cmp cs c.args.key.now i) c.in-Ok.is (rw (← c.self.view_is) at c.requires).0 in
    let l = there cs i c.in-Ok.at stands.0 in
    let value = got_value g.K.Ord.cmp g.met.K.Ord.total cs c.self.inside.most c.self.inside.count c.self.invariant c.args.key.now i c.in-Ok.at c.value_mut.result.now stands c.value_mut.ensures.value in (
      (
        refl,
        λ w. rw (← c.self.view_is) (written_map g.K.Ord.cmp g.met.K.Ord.total cs c.self.inside.most c.self.inside.count c.self.invariant c.args.key.now i c.in-Ok.at _
            (put_only cs i (record (chunk_at cs i) { entries = with_value_at (chunk_at cs i).entries c.in-Ok.at w }) l) w stands
            (ap (λ (y : Sorted g.row.K.Denot g.row.V.Denot). y.entries) (put_there cs i (record (chunk_at cs i) { entries = with_value_at (chunk_at cs i).entries c.in-Ok.at w }) l))),
        refl,
      ),
      record { writes_back = tt; value = rw (← c.self.view_is) (sym value) },
    )

pub returns-in-Err : goal.returns-in-Err
returns-in-Err g c =
    let cs = c.self.inside.pieces in
    let i = c.args.place.piece in
    let stands = subst (StandsIn g.K.Ord.cmp cs c.args.key.now i) c.in-Err.is (rw (← c.self.view_is) at c.requires).0 in
    let none = got_none g.K.Ord.cmp g.met.K.Ord.total cs c.self.inside.most c.self.inside.count c.self.invariant c.args.key.now i _ stands in
    ((refl, λ _. tt, rw (← c.self.view_is) refl), record { writes_back = tt; value = rw (← c.self.view_is) (sym none) })
