use Rattle.std.proofs.Common.{rules, ◌≡◌, ◌<◌, ◌≤◌, true, length, get_or, subst}
use Rattle.std.specs.FinMap.{is_sorted}
use Rattle.finite_map.specs.Sorted.{Sorted}
use Rattle.finite_map.proofs.Flats.{chunk_is}
use Rattle.finite_map.proofs.Spots.{sorted_chunk, stands_within, stands_past}
use Rattle.finite_map.proofs.chunks.ChunkedMap.place_within.Goals as goal

pub place_of-requires : goal.place_of-requires
place_of-requires g c =
    let b = c.in-Some.entries.now in
    let cs = c.self.inside.chunks.items in
    let i = c.args.chunk in
    let within : i < length cs = search rules in
    let read : get_or cs i b ≡ b = search rules in
    subst (λ (x : Sorted g.row.K.Denot g.row.V.Denot). is_sorted g.K.Ord.cmp x.entries ≡ true) (chunk_is cs i b within read)
    (sorted_chunk g.K.Ord.cmp g.met.K.Ord.total cs c.self.invariant.0 c.args.key.now i within)

pub returns-in-Some : goal.returns-in-Some
returns-in-Some g c =
    let b = c.in-Some.entries.now in
    let cs = c.self.inside.chunks.items in
    let i = c.args.chunk in
    let within : i < length cs = search rules in
    let read : get_or cs i b ≡ b = search rules in
    let found = c.place_of.ensures in
    rw (← c.self.view_is) (stands_within g.K.Ord.cmp g.met.K.Ord.total cs c.self.invariant.0 c.args.key.now i b (rw (← c.self.view_is) at c.requires) within read c.place_of.result found.bound found.there found.absent)

pub returns-in-None : goal.returns-in-None
returns-in-None g c =
    let cs = c.self.inside.chunks.items in
    let i = c.args.chunk in
    let behind : length cs ≤ i = search rules in
    rw (← c.self.view_is) (stands_past g.K.Ord.cmp g.met.K.Ord.total cs c.self.invariant.0 c.args.key.now i (rw (← c.self.view_is) at c.requires) behind)
