use Rattle.std.proofs.Common.{inl, refl, sym}
use Rattle.finite_map.proofs.Maps.{map_of_written}
use Rattle.iceoryx2_world.specs.Orders.{hash_cmp}
use Rattle.iceoryx2_table.proofs.Changes.{joins_again, joins_nothing, join_recorded, join_unrecorded, join_starves}
use Rattle.iceoryx2_table.proofs.services.Services.join.Goals as goal

pub returns-in-Ok : goal.returns-in-Ok
returns-in-Ok g c = (joins_again c.args.participant c.args.hash.now c.self.view_is c.requires.position c.in-Joined.is c.if-count-ge18446744073709551615.false c.set_phase.ensures, c.in-Ok.ensures.written)

pub returns-in_default-get_mut_at : goal.returns-in_default-get_mut_at
returns-in_default-get_mut_at g c = inl (joins_nothing c.args.participant c.args.hash.now c.self.view_is c.requires.position c.in-Read.is (sym c.in_default-get_mut_at.ensures.value), refl)

pub returns-then-admitted : goal.returns-then-admitted
returns-then-admitted g c =
    join_recorded c.args.participant c.args.hash.now c.self.view_is c.requires.position c.in-Read.is c.in-Some.segment.now c.admit.new.self (sym c.in-Some.ensures.value) (map_of_written hash_cmp c.self.inside.segments c.args.hash.now c.admit.new.self)
    g.R.Recorder.written g.R.Recorder.refused c.args.recorder.now c.admit.new.recorder c.if-admitted.true c.in-Ok-admit.ensures c.set_phase-then-admitted.ensures

pub returns-else-admitted : goal.returns-else-admitted
returns-else-admitted g c =
    join_unrecorded c.args.participant c.args.hash.now c.self.view_is c.requires.position c.in-Read.is c.in-Some.segment.now c.admit.new.self (sym c.in-Some.ensures.value) (map_of_written hash_cmp c.self.inside.segments c.args.hash.now c.admit.new.self)
    g.R.Recorder.written g.R.Recorder.refused c.args.recorder.now c.admit.new.recorder c.if-admitted.false c.in-Ok-admit.ensures

pub returns-in-Err : goal.returns-in-Err
returns-in-Err g c = (
  join_starves c.args.participant c.args.hash.now c.self.view_is c.requires.position c.in-Read.is c.in-Some.segment.now c.admit.new.self (sym c.in-Some.ensures.value) (map_of_written hash_cmp c.self.inside.segments c.args.hash.now c.admit.new.self)
      _ c.in-Err.ensures.0,
  c.in-Err.ensures.1,
)
