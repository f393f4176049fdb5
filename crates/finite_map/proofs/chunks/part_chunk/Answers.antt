use Rattle.std.proofs.Common.{◌≡◌, ◌+◌, get_or, set, List, sym, ap, ◌∙◌, add-one}
use Rattle.std.specs.List.{insert}
use Rattle.finite_map.specs.Sorted.{Sorted}
use Rattle.finite_map.proofs.Shapes.{parted, parted-before, halves-flat, halves-shaped, halves-upper, halves-open}
use Rattle.finite_map.proofs.chunks.part_chunk.Goals as goal

pub returns-in-Ok : goal.returns-in-Ok
returns-in-Ok g c =
    let cs = c.args.chunks.now.items in
    let i = c.args.chunk in
    let b = c.index_mut.result.now in
    let lower = c.split_off.new.self in
    let upper = c.in-Ok.upper in
    let low = c.in-Ok.ensures.lower in
    let high = c.in-Ok.ensures.upper in
    let l = c.requires.in_range in
    let full = c.requires.full in
    let kept = c.reserve.ensures.items in
    let read : get_or cs i b ≡ b = ap (λ (rs : List (Sorted g.row.K.Denot g.row.V.Denot)). get_or rs i b) (sym kept) ∙ sym c.index_mut.ensures.value in
    let is : c.insert_behind.new.items.items ≡ parted lower upper cs i =
    c.insert_behind.ensures
    ∙ ap (λ (rs : List (Sorted g.row.K.Denot g.row.V.Denot)). insert (set rs i lower) (i + 1) upper) kept
    ∙ ap (λ n. insert (set cs i lower) n upper) (add-one i) in
    rw is (record {
      same = halves-flat lower upper cs i b l read full low high;
      shaped = halves-shaped lower upper cs i b l read full low high c.requires.shaped;
      lower = parted-before lower upper cs i l;
      upper = rw (add-one i) (halves-upper lower upper cs i b l read full low high);
      fits = rw (add-one i) (halves-open lower upper cs i b l read full low high);
    })
