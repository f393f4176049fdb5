use Rattle.std.proofs.Common.{rules, ◌≡◌, ◌+◌, ◌<◌, ◌≤◌, [], ◌∷◌, length, None, sym, ap, subst, ◌∙◌, arith, add-one}
use Rattle.std.specs.Prelude.{IfSome}
use Rattle.finite_map.specs.Maps.{GoesOn}
use Rattle.finite_map.specs.Chunks.{rest_from, chunk_at}
use Rattle.finite_map.specs.declared.chunks.ChunkCursor.{ChunkCursor}
use Rattle.finite_map.proofs.Walks.{next_chunk, at_end, none_left, goes_on}
use Rattle.finite_map.proofs.chunks.ChunkedMapFiniteMap.next.Goals as goal

pub returns-then-cursor-len : goal.returns-then-cursor-len
returns-then-cursor-len g c =
    let R = g.K.Ord.cmp in
    let o = g.met.K.Ord.total in
    let cs = c.self.inside.chunks.items in
    let i = c.args.cursor.chunk in
    let at = c.args.cursor.at in
    let keep = c.self.invariant in
    let within : i < length cs = search rules in
    let done : length (chunk_at cs i).entries ≤ at = rw (← c.self.view_is) at (c.step.ensures.end c.in-None.is) in
    let on = next_chunk R o cs keep.0 i at done ∙ ap (λ n. rest_from R cs n 0) (sym (add-one i)) in
    let further : IfSome c.step-then-cursor-len.result (λ went. rest_from R cs (i + 1) 0 ≡ (went.0.0.now, went.0.1.now) ∷ rest_from R cs went.1.chunk went.1.at) = rw (← c.self.view_is) at c.step-then-cursor-len.ensures.step in
    let end : c.step-then-cursor-len.result ≡ None → rest_from R cs (i + 1) 0 ≡ [] = λ e. none_left R o cs keep.0 (i + 1) 64 keep.1 (omega arith) (rw (← c.self.view_is) at (c.step-then-cursor-len.ensures.end e)) 0 in
    rw (← c.self.view_is) (subst (λ left. GoesOn (λ (x : ChunkCursor). rest_from R cs x.chunk x.at) left c.step-then-cursor-len.result) (sym on)
    (goes_on (λ (x : ChunkCursor). rest_from R cs x.chunk x.at) (rest_from R cs (i + 1) 0) c.step-then-cursor-len.result further end))

pub returns-else-cursor-len : goal.returns-else-cursor-len
returns-else-cursor-len g c =
    let cs = c.self.inside.chunks.items in
    let behind : length cs ≤ c.args.cursor.chunk = search rules in
    rw (← c.self.view_is) (at_end g.K.Ord.cmp g.met.K.Ord.total cs c.self.invariant.0 c.args.cursor.chunk c.args.cursor.at behind)
