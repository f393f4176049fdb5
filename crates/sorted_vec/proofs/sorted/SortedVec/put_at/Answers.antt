use Rattle.std.proofs.Common.{arith, subst}
use Rattle.finite_map.specs.Chunks.{StandsIn}
use Rattle.finite_map.proofs.Flats.{there_with_room}
use Rattle.sorted_vec.specs.Sorted.{HasRoomFor, IsPlace}
use Rattle.sorted_vec.proofs.Kept.{written_kept, written_map, added_kept, added_map, got_none}
use Rattle.sorted_vec.proofs.sorted.SortedVec.put_at.Goals as goal

pub invariant_of-self : goal.invariant_of-self
invariant_of-self g c =
    let cs = c.self.inside.pieces in
    let i = c.args.place.piece in
    let stands = subst (StandsIn g.K.Ord.cmp cs c.args.key i) c.in-Ok.is (rw (← c.self.view_is) at c.requires.place).0 in
    written_kept g.K.Ord.cmp g.met.K.Ord.total cs c.self.inside.most c.self.inside.count c.self.invariant c.args.key i c.in-Ok.at c.set_value.new.self c.set_value.ensures.only c.args.value stands c.set_value.ensures.entries

pub returns-in-Ok : goal.returns-in-Ok
returns-in-Ok g c =
    let cs = c.self.inside.pieces in
    let i = c.args.place.piece in
    let stands = subst (StandsIn g.K.Ord.cmp cs c.args.key i) c.in-Ok.is (rw (← c.self.view_is) at c.requires.place).0 in
    rw (← c.self.view_is) (written_map g.K.Ord.cmp g.met.K.Ord.total cs c.self.inside.most c.self.inside.count c.self.invariant c.args.key i c.in-Ok.at c.set_value.new.self c.set_value.ensures.only c.args.value stands c.set_value.ensures.entries)

pub insert-requires-clause-room : goal.insert-requires-clause-room
unfolding HasRoomFor
insert-requires-clause-room g c =
    let cs = c.self.inside.pieces in
    let i = c.args.place.piece in
    let place = subst (IsPlace g.K.Ord.cmp (record { pieces = cs; most = c.self.inside.most }) c.args.key i) c.in-Err.is (rw (← c.self.view_is) at c.requires.place) in
    let none = got_none g.K.Ord.cmp g.met.K.Ord.total cs c.self.inside.most c.self.inside.count c.self.invariant c.args.key i _ place.0 in
    ((rw (← c.self.view_is) at c.requires.room) none i c.in-Err.at place).0.0

pub overflow_add-self : goal.overflow_add-self
unfolding HasRoomFor
overflow_add-self g c =
    let cs = c.self.inside.pieces in
    let i = c.args.place.piece in
    let place = subst (IsPlace g.K.Ord.cmp (record { pieces = cs; most = c.self.inside.most }) c.args.key i) c.in-Err.is (rw (← c.self.view_is) at c.requires.place) in
    let none = got_none g.K.Ord.cmp g.met.K.Ord.total cs c.self.inside.most c.self.inside.count c.self.invariant c.args.key i _ place.0 in
    let room = (rw (← c.self.view_is) at c.requires.room) none i c.in-Err.at place in
    omega (arith, room.1, c.self.invariant.counted)

pub invariant_of-self-in-Err : goal.invariant_of-self-in-Err
unfolding HasRoomFor
invariant_of-self-in-Err g c =
    let cs = c.self.inside.pieces in
    let i = c.args.place.piece in
    let place = subst (IsPlace g.K.Ord.cmp (record { pieces = cs; most = c.self.inside.most }) c.args.key i) c.in-Err.is (rw (← c.self.view_is) at c.requires.place) in
    let none = got_none g.K.Ord.cmp g.met.K.Ord.total cs c.self.inside.most c.self.inside.count c.self.invariant c.args.key i _ place.0 in
    let room = (rw (← c.self.view_is) at c.requires.room) none i c.in-Err.at place in
    let l = there_with_room cs i room.0.0 in
    added_kept g.K.Ord.cmp g.met.K.Ord.total cs c.self.inside.most c.self.inside.count c.self.invariant c.args.key i c.in-Err.at c.insert.new.self c.insert.ensures.only c.args.value place.0 l c.insert.ensures.entries room.0.1

pub returns-in-Err : goal.returns-in-Err
unfolding HasRoomFor
returns-in-Err g c =
    let cs = c.self.inside.pieces in
    let i = c.args.place.piece in
    let place = subst (IsPlace g.K.Ord.cmp (record { pieces = cs; most = c.self.inside.most }) c.args.key i) c.in-Err.is (rw (← c.self.view_is) at c.requires.place) in
    let none = got_none g.K.Ord.cmp g.met.K.Ord.total cs c.self.inside.most c.self.inside.count c.self.invariant c.args.key i _ place.0 in
    let room = (rw (← c.self.view_is) at c.requires.room) none i c.in-Err.at place in
    let l = there_with_room cs i room.0.0 in
    rw (← c.self.view_is) (added_map g.K.Ord.cmp g.met.K.Ord.total cs c.self.inside.most c.self.inside.count c.self.invariant c.args.key i c.in-Err.at c.insert.new.self c.insert.ensures.only c.args.value place.0 l c.insert.ensures.entries)
