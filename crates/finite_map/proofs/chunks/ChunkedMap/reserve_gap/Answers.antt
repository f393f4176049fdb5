use Rattle.std.proofs.Common.{rules, arith, ◌≡◌, get_or}
use Rattle.finite_map.proofs.Stored.{roomy_map, roomy_kept, roomy_stands, roomy, roomy-length}
use Rattle.finite_map.proofs.chunks.ChunkedMap.reserve_gap.Goals as goal

pub invariant_of-self-in_err-reserve : goal.invariant_of-self-in_err-reserve
invariant_of-self-in_err-reserve g c =
    let ds = c.open_gap.new.chunks.items in
    let b = c.index_mut.result.now in
    let read : get_or ds c.in_ok-chunk.chunk b ≡ b = search rules in
    roomy_kept g.K.Ord.cmp c.self.inside.chunks.items ds c.open_gap.ensures.same c.in_ok-chunk.chunk c.in_ok-chunk.at c.in_ok-chunk.ensures.fits b c.reserve.new.self read c.reserve.ensures.same c.self.inside.count c.self.invariant c.open_gap.ensures.shaped

pub returns-in_err-reserve-clause-same : goal.returns-in_err-reserve-clause-same
returns-in_err-reserve-clause-same g c =
    let ds = c.open_gap.new.chunks.items in
    let b = c.index_mut.result.now in
    let read : get_or ds c.in_ok-chunk.chunk b ≡ b = search rules in
    rw (← c.self.view_is) (roomy_map g.K.Ord.cmp c.self.inside.chunks.items ds c.open_gap.ensures.same c.in_ok-chunk.chunk c.in_ok-chunk.at c.in_ok-chunk.ensures.fits b c.reserve.new.self read c.reserve.ensures.same)

pub invariant_of-self-2 : goal.invariant_of-self-2
invariant_of-self-2 g c =
    let ds = c.open_gap.new.chunks.items in
    let b = c.index_mut.result.now in
    let read : get_or ds c.in_ok-chunk.chunk b ≡ b = search rules in
    roomy_kept g.K.Ord.cmp c.self.inside.chunks.items ds c.open_gap.ensures.same c.in_ok-chunk.chunk c.in_ok-chunk.at c.in_ok-chunk.ensures.fits b c.reserve.new.self read c.reserve.ensures.same c.self.inside.count c.self.invariant c.open_gap.ensures.shaped

pub returns-clause-same : goal.returns-clause-same
returns-clause-same g c =
    let ds = c.open_gap.new.chunks.items in
    let b = c.index_mut.result.now in
    let read : get_or ds c.in_ok-chunk.chunk b ≡ b = search rules in
    rw (← c.self.view_is) (roomy_map g.K.Ord.cmp c.self.inside.chunks.items ds c.open_gap.ensures.same c.in_ok-chunk.chunk c.in_ok-chunk.at c.in_ok-chunk.ensures.fits b c.reserve.new.self read c.reserve.ensures.same)

pub returns-clause-place : goal.returns-clause-place
returns-clause-place g c =
    let ds = c.open_gap.new.chunks.items in
    let b = c.index_mut.result.now in
    let read : get_or ds c.in_ok-chunk.chunk b ≡ b = search rules in
    roomy_stands g.K.Ord.cmp c.self.inside.chunks.items ds c.open_gap.ensures.same c.in_ok-chunk.chunk c.in_ok-chunk.at c.in_ok-chunk.ensures.fits b c.reserve.new.self read c.reserve.ensures.same c.args.key.now c.args.chunk c.args.at (rw (← c.self.view_is) at c.requires) c.in_ok-chunk.ensures.place

pub returns-clause-room : goal.returns-clause-room
returns-clause-room g c =
    let ds = c.open_gap.new.chunks.items in
    let b = c.index_mut.result.now in
    let read : get_or ds c.in_ok-chunk.chunk b ≡ b = search rules in
    let all = roomy-length g.K.Ord.cmp c.self.inside.chunks.items ds c.open_gap.ensures.same c.in_ok-chunk.chunk c.in_ok-chunk.at c.in_ok-chunk.ensures.fits b c.reserve.new.self read c.reserve.ensures.same in
    (roomy g.K.Ord.cmp c.self.inside.chunks.items ds c.open_gap.ensures.same c.in_ok-chunk.chunk c.in_ok-chunk.at c.in_ok-chunk.ensures.fits b c.reserve.new.self read c.reserve.ensures.same c.in_ok-reserve.ensures.room, omega (arith, all, c.if-self.false, c.self.invariant.2, c.self.ranges))
