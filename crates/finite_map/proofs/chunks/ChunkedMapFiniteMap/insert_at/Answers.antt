use Rattle.std.proofs.Common.{rules, arith, ◌≡◌, ◌<◌, length, get_or, subst}
use Rattle.finite_map.specs.Sorted.{Sorted}
use Rattle.finite_map.specs.Chunks.{StandsIn}
use Rattle.finite_map.proofs.Flats.{chunk_is, there_with_room}
use Rattle.finite_map.proofs.Stored.{written_kept, written_map, added_kept, added_map, got_none}
use Rattle.finite_map.proofs.chunks.ChunkedMapFiniteMap.insert_at.Goals as goal

pub invariant_of-self : goal.invariant_of-self
invariant_of-self g c =
    let cs = c.self.inside.chunks.items in
    let i = c.args.place.chunk in
    let b = c.index_mut.result.now in
    let stands = subst (StandsIn g.K.Ord.cmp cs c.args.key i) c.in-Ok.is (rw (← c.self.view_is) at c.requires.place) in
    let read : get_or cs i b ≡ b = search rules in
    written_kept g.K.Ord.cmp g.met.K.Ord.total cs c.self.inside.count c.self.invariant c.args.key i c.args.value c.in-Ok.at b _ read stands c.set_value.ensures

pub returns-in-Ok : goal.returns-in-Ok
returns-in-Ok g c =
    let cs = c.self.inside.chunks.items in
    let i = c.args.place.chunk in
    let b = c.index_mut.result.now in
    let stands = subst (StandsIn g.K.Ord.cmp cs c.args.key i) c.in-Ok.is (rw (← c.self.view_is) at c.requires.place) in
    let read : get_or cs i b ≡ b = search rules in
    rw (← c.self.view_is) (written_map g.K.Ord.cmp g.met.K.Ord.total cs c.self.inside.count c.self.invariant c.args.key i c.args.value c.in-Ok.at b _ read stands c.set_value.ensures)

pub index_mut-requires-in-Err : goal.index_mut-requires-in-Err
index_mut-requires-in-Err g c =
    let cs = c.self.inside.chunks.items in
    let i = c.args.place.chunk in
    let stands = subst (StandsIn g.K.Ord.cmp cs c.args.key i) c.in-Err.is (rw (← c.self.view_is) at c.requires.place) in
    let none = got_none g.K.Ord.cmp g.met.K.Ord.total cs c.self.inside.count c.self.invariant c.args.key i _ stands in
    let room = (rw (← c.self.view_is) at c.requires.room) none in
    let l = there_with_room cs i room.0.0 in
    omega (arith, l)

pub insert-requires-clause-room : goal.insert-requires-clause-room
insert-requires-clause-room g c =
    let cs = c.self.inside.chunks.items in
    let i = c.args.place.chunk in
    let stands = subst (StandsIn g.K.Ord.cmp cs c.args.key i) c.in-Err.is (rw (← c.self.view_is) at c.requires.place) in
    let none = got_none g.K.Ord.cmp g.met.K.Ord.total cs c.self.inside.count c.self.invariant c.args.key i _ stands in
    let room = (rw (← c.self.view_is) at c.requires.room) none in
    let l = there_with_room cs i room.0.0 in
    let b = c.index_mut-in-Err.result.now in
    let read : get_or cs i b ≡ b = search rules in
    subst (λ (x : Sorted g.row.K.Denot g.row.V.Denot). length x.entries < x.capacity) (chunk_is cs i b l read) room.0.0

pub overflow_add-self : goal.overflow_add-self
overflow_add-self g c =
    let cs = c.self.inside.chunks.items in
    let i = c.args.place.chunk in
    let stands = subst (StandsIn g.K.Ord.cmp cs c.args.key i) c.in-Err.is (rw (← c.self.view_is) at c.requires.place) in
    let none = got_none g.K.Ord.cmp g.met.K.Ord.total cs c.self.inside.count c.self.invariant c.args.key i _ stands in
    let room = (rw (← c.self.view_is) at c.requires.room) none in
    omega (arith, room.1, c.self.invariant.2)

pub invariant_of-self-in-Err : goal.invariant_of-self-in-Err
invariant_of-self-in-Err g c =
    let cs = c.self.inside.chunks.items in
    let i = c.args.place.chunk in
    let stands = subst (StandsIn g.K.Ord.cmp cs c.args.key i) c.in-Err.is (rw (← c.self.view_is) at c.requires.place) in
    let none = got_none g.K.Ord.cmp g.met.K.Ord.total cs c.self.inside.count c.self.invariant c.args.key i _ stands in
    let room = (rw (← c.self.view_is) at c.requires.room) none in
    let l = there_with_room cs i room.0.0 in
    let b = c.index_mut-in-Err.result.now in
    let read : get_or cs i b ≡ b = search rules in
    let few = subst (λ (x : Sorted g.row.K.Denot g.row.V.Denot). length x.entries < 64) (chunk_is cs i b l read) room.0.1 in
    added_kept g.K.Ord.cmp g.met.K.Ord.total cs c.self.inside.count c.self.invariant c.args.key i c.args.value c.in-Err.at b _ read stands l c.insert.ensures few

pub returns-in-Err : goal.returns-in-Err
returns-in-Err g c =
    let cs = c.self.inside.chunks.items in
    let i = c.args.place.chunk in
    let stands = subst (StandsIn g.K.Ord.cmp cs c.args.key i) c.in-Err.is (rw (← c.self.view_is) at c.requires.place) in
    let none = got_none g.K.Ord.cmp g.met.K.Ord.total cs c.self.inside.count c.self.invariant c.args.key i _ stands in
    let room = (rw (← c.self.view_is) at c.requires.room) none in
    let l = there_with_room cs i room.0.0 in
    let b = c.index_mut-in-Err.result.now in
    let read : get_or cs i b ≡ b = search rules in
    rw (← c.self.view_is) (added_map g.K.Ord.cmp g.met.K.Ord.total cs c.self.inside.count c.self.invariant c.args.key i c.args.value c.in-Err.at b _ read stands l c.insert.ensures)
