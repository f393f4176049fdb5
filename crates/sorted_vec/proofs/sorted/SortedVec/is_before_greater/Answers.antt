use Rattle.std.proofs.Common.{rules, arith, ◌≡◌, ◌<◌, ◌≤◌, true, length, get_or, sym, ap, ◌∙◌}
use Rattle.std.specs.Ordering.{is_gt}
use Rattle.std.proofs.lemmas.List.{length-drop}
use Rattle.finite_map.specs.Sorted.{Sorted}
use Rattle.finite_map.specs.Chunks.{chunk_at, first_order}
use Rattle.sorted_vec.proofs.Hints.{greater_from, greater_behind, gap_between, is_more, next_is}
use Rattle.sorted_vec.proofs.sorted.SortedVec.is_before_greater.Goals as goal

pub returns-then-at-entries : goal.returns-then-at-entries
returns-then-at-entries g c = λ more.
    let cs = c.self.inside.pieces in
    let i = c.args.piece in
    let at = c.args.at in
    let d = c.index-entries-at.result in
    let low = rw (← c.self.view_is) at c.requires in
    let here = c.entries-entries.ensures ∙ ap (λ (x : Sorted g.row.K.Denot g.row.V.Denot). x.entries) c.piece.ensures in
    let within : at < length (chunk_at cs i).entries = let n = ap length here in omega (arith, n, c.if-at-entries.true) in
    let test : is_gt c.cmp.result ≡ true = sym c.is_gt.ensures ∙ more in
    let read = ap (λ es. g.K.Ord.cmp (get_or es at d).0 c.args.key.now) (sym here) ∙ sym c.cmp.ensures ∙ is_more c.cmp.result test in
    rw (← c.self.view_is) (gap_between g.K.Ord.cmp g.met.K.Ord.total cs c.self.invariant.sorted c.args.key.now i at low
    (greater_from g.K.Ord.cmp g.met.K.Ord.total cs c.self.invariant.sorted c.args.key.now i at d within read))

pub returns-in-Some : goal.returns-in-Some
returns-in-Some g c = λ more.
    let cs = c.self.inside.pieces in
    let i = c.args.piece in
    let at = c.args.at in
    let os = c.others.result.now in
    let b = c.in-Some.next.now in
    let low = rw (← c.self.view_is) at c.requires in
    let here = c.entries-entries.ensures ∙ ap (λ (x : Sorted g.row.K.Denot g.row.V.Denot). x.entries) c.piece.ensures in
    let end : length (chunk_at cs i).entries ≡ at = let n = ap length here in let m = low.1 in omega (arith, n, m, c.if-at-entries.false) in
    let within : i < length os = search rules in
    let read : get_or os i b ≡ b = search rules in
    let test : is_gt c.compare_first.result ≡ true = sym c.is_gt-in-Some.ensures ∙ more in
    let first = ap (λ (x : Sorted g.row.K.Denot g.row.V.Denot). first_order g.K.Ord.cmp c.args.key.now x.entries) (next_is cs os i b c.others.ensures within read)
    ∙ sym c.compare_first.ensures ∙ is_more c.compare_first.result test in
    rw (← c.self.view_is) (gap_between g.K.Ord.cmp g.met.K.Ord.total cs c.self.invariant.sorted c.args.key.now i at low
    (greater_behind g.K.Ord.cmp g.met.K.Ord.total cs c.self.invariant.sorted c.args.key.now i at c.self.inside.most c.self.invariant.shaped end (λ _. first)))

pub returns-in-None : goal.returns-in-None
returns-in-None g c = λ more.
    let cs = c.self.inside.pieces in
    let i = c.args.piece in
    let at = c.args.at in
    let os = c.others.result.now in
    let low = rw (← c.self.view_is) at c.requires in
    let here = c.entries-entries.ensures ∙ ap (λ (x : Sorted g.row.K.Denot g.row.V.Denot). x.entries) c.piece.ensures in
    let end : length (chunk_at cs i).entries ≡ at = let n = ap length here in let m = low.1 in omega (arith, n, m, c.if-at-entries.false) in
    let past : length os ≤ i = search rules in
    let size = ap length c.others.ensures ∙ length-drop 1 cs in
    rw (← c.self.view_is) (gap_between g.K.Ord.cmp g.met.K.Ord.total cs c.self.invariant.sorted c.args.key.now i at low
    (greater_behind g.K.Ord.cmp g.met.K.Ord.total cs c.self.invariant.sorted c.args.key.now i at c.self.inside.most c.self.invariant.shaped end (λ m. absurd (omega (arith, past, size, m)))))
