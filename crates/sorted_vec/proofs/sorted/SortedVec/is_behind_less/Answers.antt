use Rattle.std.proofs.Common.{rules, arith, ◌≡◌, ◌<◌, ◌≤◌, ◌-◌, true, length, get_or, sym, ap, ◌∙◌}
use Rattle.std.specs.Ordering.{is_lt}
use Rattle.finite_map.specs.Sorted.{Sorted}
use Rattle.finite_map.specs.Chunks.{chunk_at}
use Rattle.sorted_vec.proofs.Hints.{less_before, is_less}
use Rattle.sorted_vec.proofs.sorted.SortedVec.is_behind_less.Goals as goal

pub returns-then-at-entries : goal.returns-then-at-entries
returns-then-at-entries g c = λ less.
    let cs = c.self.inside.pieces in
    let i = c.args.piece in
    let at = c.args.at in
    let d = c.index-entries-at.result in
    let there : i < length cs = search rules in
    let here = c.entries-entries.ensures ∙ ap (λ (x : Sorted g.row.K.Denot g.row.V.Denot). x.entries) c.piece.ensures in
    let within : at ≤ length (chunk_at cs i).entries = let n = ap length here in omega (arith, n, c.if-at-entries.true) in
    let test : is_lt c.cmp.result ≡ true = sym c.is_lt.ensures ∙ less in
    let read = ap (λ es. g.K.Ord.cmp (get_or es (at - 1) d).0 c.args.key.now) (sym here) ∙ sym c.cmp.ensures ∙ is_less c.cmp.result test in
    rw (← c.self.view_is) (there, within, less_before g.K.Ord.cmp g.met.K.Ord.total cs c.self.invariant.sorted c.args.key.now i at d (omega (arith, c.if-at-eq0.false)) within read, λ none. absurd (omega (arith, c.if-at-eq0.false, none)))
