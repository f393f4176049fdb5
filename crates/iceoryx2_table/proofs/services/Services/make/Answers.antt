use Rattle.std.proofs.Common.{inl, inr, refl, sym, ◌∙◌, arith}
use Rattle.iceoryx2_table.proofs.Views.{there_by_place}
use Rattle.iceoryx2_table.proofs.Changes.{segment_there, no_make, make_starves, make_starves_room, makes}
use Rattle.iceoryx2_table.proofs.services.Services.make.Goals as goal

pub returns-then-is_ok : goal.returns-then-is_ok
returns-then-is_ok g c = inl ((no_make c.args.self.now c.args.participant c.args.hash.now c.args.max_nodes c.in-Locked.number c.requires.position c.in-Locked.is (there_by_place _ c.args.hash.now c.requires.segment (sym c.is_ok.ensures.value ∙ c.if-is_ok.true)), refl), refl)

pub returns-in_default-new : goal.returns-in_default-new
returns-in_default-new g c = (make_starves c.args.participant c.args.hash.now c.args.max_nodes c.in-Locked.number c.self.view_is c.requires.position c.in-Locked.is (segment_there c.args.hash.now c.self.view_is c.requires.segment (sym c.is_ok.ensures.value ∙ c.if-is_ok.false)) (omega (arith, c.if-max_nodes-eq0.false)), refl)

pub returns-then-is_err : goal.returns-then-is_err
returns-then-is_err g c = (make_starves_room c.args.participant c.args.hash.now c.args.max_nodes c.in-Locked.number c.self.view_is c.requires.position c.in-Locked.is (segment_there c.args.hash.now c.self.view_is c.requires.segment (sym c.is_ok.ensures.value ∙ c.if-is_ok.false)) (omega (arith, c.if-max_nodes-eq0.false)) c.reserve_at.ensures.same, refl)

pub returns-in_default-write_down : goal.returns-in_default-write_down
returns-in_default-write_down g c = inr ((make_starves_room c.args.participant c.args.hash.now c.args.max_nodes c.in-Locked.number c.self.view_is c.requires.position c.in-Locked.is (segment_there c.args.hash.now c.self.view_is c.requires.segment (sym c.is_ok.ensures.value ∙ c.if-is_ok.false)) (omega (arith, c.if-max_nodes-eq0.false)) c.reserve_at.ensures.same).3, c.in_default-write_down.ensures.refused)

pub returns : goal.returns
returns g c = (
  makes c.args.participant c.args.hash.now c.args.max_nodes c.in-Locked.number c.self.view_is c.requires.position c.in-Locked.is (segment_there c.args.hash.now c.self.view_is c.requires.segment (sym c.is_ok.ensures.value ∙ c.if-is_ok.false)) (omega (arith, c.if-max_nodes-eq0.false))
      c.insert_at.ensures.effect c.reserve_at.ensures.same c.in-Ok.ensures c.set_phase.ensures,
  c.in-Ok-write_down.ensures.written,
)
