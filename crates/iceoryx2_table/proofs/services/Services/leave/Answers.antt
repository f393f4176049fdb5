use Rattle.std.proofs.Common.{arith, inl, inr, refl, sym}
use Rattle.finite_map.proofs.Maps.{map_of_written}
use Rattle.iceoryx2_world.specs.Orders.{hash_cmp}
use Rattle.iceoryx2_table.proofs.Changes.{found_again, leaves_one, leaves_none, leaves_nothing, leaves, leaves_last}
use Rattle.iceoryx2_table.proofs.services.Services.leave.Goals as goal

pub returns-then-count-gt1 : goal.returns-then-count-gt1
returns-then-count-gt1 g c = (leaves_one c.args.participant c.args.hash.now c.self.view_is c.position_of-position.ensures c.in-Joined.is c.if-count-gt1.true c.set_phase.ensures, c.in-Ok.ensures.written)

pub returns-then-count-eq0 : goal.returns-then-count-eq0
returns-then-count-eq0 g c = inl ((leaves_none c.args.participant c.args.hash.now c.self.view_is c.position_of-position.ensures c.in-Joined.is c.if-count-eq0.true, refl), refl)

pub returns-in_default-get_mut : goal.returns-in_default-get_mut
returns-in_default-get_mut g c = inl (leaves_nothing c.args.participant c.args.hash.now c.self.view_is c.position_of-position.ensures c.in-Joined.is (omega (arith, c.if-count-gt1.false, c.if-count-eq0.false)) (sym c.in_default-get_mut.ensures.value), refl)

pub returns-in_default-write_down-2 : goal.returns-in_default-write_down-2
returns-in_default-write_down-2 g c = inr (found_again c.args.hash.now c.self.view_is c.in-Some.segment.now (sym c.in-Some.ensures.value) (map_of_written hash_cmp c.self.inside.segments c.args.hash.now c.in-Some.segment.now), c.in_default-write_down-2.ensures.refused)

pub returns-then-dismiss : goal.returns-then-dismiss
returns-then-dismiss g c = (
  leaves c.args.participant c.args.hash.now c.self.view_is c.position_of-position.ensures c.in-Joined.is (omega (arith, c.if-count-gt1.false, c.if-count-eq0.false))
      c.in-Some.segment.now c.dismiss.new.self (sym c.in-Some.ensures.value) (map_of_written hash_cmp c.self.inside.segments c.args.hash.now c.dismiss.new.self) c.dismiss.ensures
      c.if-dismiss.true c.set_phase-then-dismiss.ensures,
  c.in-Ok-write_down.ensures.written,
)

pub returns : goal.returns
returns g c = (
  leaves_last c.args.participant c.args.hash.now c.self.view_is c.position_of-position.ensures c.in-Joined.is (omega (arith, c.if-count-gt1.false, c.if-count-eq0.false))
      c.in-Some.segment.now c.dismiss.new.self (sym c.in-Some.ensures.value) (map_of_written hash_cmp c.self.inside.segments c.args.hash.now c.dismiss.new.self) c.dismiss.ensures
      c.if-dismiss.false c.set_phase-2.ensures,
  c.in-Ok-write_down.ensures.written,
)
