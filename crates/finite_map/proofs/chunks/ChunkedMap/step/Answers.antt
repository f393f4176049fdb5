use Rattle.std.proofs.Common.{rules, ◌≡◌, ◌<◌, length, get_or, sym, subst}
use Rattle.finite_map.specs.Sorted.{Sorted}
use Rattle.finite_map.proofs.Flats.{chunk_is}
use Rattle.finite_map.proofs.Walks.{step_on}
use Rattle.finite_map.proofs.chunks.ChunkedMap.step.Goals as goal

pub returns-then-at-len-clause-step : goal.returns-then-at-len-clause-step
returns-then-at-len-clause-step g c =
    let cs = c.self.inside.chunks.items in
    let i = c.args.chunk in
    let at = c.args.at in
    let b = c.index-then-at-len.result.now in
    let e = c.entry-entry.result.now in
    let within : i < length cs = search rules in
    let read : get_or cs i b ≡ b = search rules in
    let is = sym (chunk_is cs i b within read) in
    let first : get_or cs i c.index.result.now ≡ c.index.result.now = search rules in
    let here : at < length c.index.result.now.entries = search rules in
    let there = sym (chunk_is cs i c.index.result.now within first) in
    rw (← c.self.view_is) (step_on g.K.Ord.cmp g.met.K.Ord.total cs c.self.invariant.0 i at e
    (subst (λ (x : Sorted g.row.K.Denot g.row.V.Denot). at < length x.entries) there here)
    (subst (λ (x : Sorted g.row.K.Denot g.row.V.Denot). get_or x.entries at e ≡ e) is (sym c.entry-entry.ensures)))
