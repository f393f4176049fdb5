use Rattle.std.proofs.Common.{arith, ◌<◌, ◌-◌, ◌^◌}
use Rattle.sorted_vec.proofs.Gaps.{roomy_map, roomy_kept, roomy_stands, has_room}
use Rattle.sorted_vec.specs.Sorted.{HasRoomFor}
use Rattle.sorted_vec.proofs.sorted.SortedVec.reserve_gap.Goals as goal

pub invariant_of-self-in_err-reserve : goal.invariant_of-self-in_err-reserve
invariant_of-self-in_err-reserve g c =
    let told = c.in_ok-piece.ensures in
    roomy_kept g.K.Ord.cmp c.self.inside.pieces c.open_gap.new.pieces c.reserve.new.self c.self.inside.most c.self.inside.count c.self.invariant told.same told.shaped c.in_ok-piece.piece c.in_ok-piece.at told.fits c.reserve.ensures.only c.reserve.ensures.same

pub returns-in_err-reserve-clause-same : goal.returns-in_err-reserve-clause-same
returns-in_err-reserve-clause-same g c =
    let told = c.in_ok-piece.ensures in
    rw (← c.self.view_is) (roomy_map g.K.Ord.cmp c.self.inside.pieces c.open_gap.new.pieces c.reserve.new.self c.self.inside.most c.self.inside.count c.self.invariant told.same told.shaped c.in_ok-piece.piece c.in_ok-piece.at told.fits c.reserve.ensures.only c.reserve.ensures.same)

pub invariant_of-self-2 : goal.invariant_of-self-2
invariant_of-self-2 g c =
    let told = c.in_ok-piece.ensures in
    roomy_kept g.K.Ord.cmp c.self.inside.pieces c.open_gap.new.pieces c.reserve.new.self c.self.inside.most c.self.inside.count c.self.invariant told.same told.shaped c.in_ok-piece.piece c.in_ok-piece.at told.fits c.reserve.ensures.only c.reserve.ensures.same

pub returns-clause-same : goal.returns-clause-same
returns-clause-same g c =
    let told = c.in_ok-piece.ensures in
    rw (← c.self.view_is) (roomy_map g.K.Ord.cmp c.self.inside.pieces c.open_gap.new.pieces c.reserve.new.self c.self.inside.most c.self.inside.count c.self.invariant told.same told.shaped c.in_ok-piece.piece c.in_ok-piece.at told.fits c.reserve.ensures.only c.reserve.ensures.same)

pub returns-clause-place : goal.returns-clause-place
returns-clause-place g c =
    let told = c.in_ok-piece.ensures in
    let place = rw (← c.self.view_is) at c.requires in
    (roomy_stands g.K.Ord.cmp c.self.inside.pieces c.open_gap.new.pieces c.reserve.new.self c.self.inside.most c.self.inside.count c.self.invariant told.same told.shaped c.in_ok-piece.piece c.in_ok-piece.at told.fits c.reserve.ensures.only c.reserve.ensures.same c.args.key.now c.args.piece c.args.at place.0 told.place.0, told.place.1)

pub returns-clause-room : goal.returns-clause-room
unfolding HasRoomFor
returns-clause-room g c =
    let told = c.in_ok-piece.ensures in
    let place = rw (← c.self.view_is) at c.requires in
    let few : c.self.inside.count < 2 ^ 64 - 1 = omega (arith, c.if-self.false, c.self.ranges) in
    has_room g.K.Ord.cmp c.self.inside.pieces c.open_gap.new.pieces c.reserve.new.self c.self.inside.most c.self.inside.count c.self.invariant told.same told.shaped c.in_ok-piece.piece c.in_ok-piece.at told.fits c.reserve.ensures.only c.reserve.ensures.same c.args.key.now c.args.piece c.args.at place.0 told.place.0 told.place.1 c.in_ok-reserve.ensures.room few
