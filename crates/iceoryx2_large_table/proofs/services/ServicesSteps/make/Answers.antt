use Rattle.std.proofs.Common.{◌≡◌, true, false, inl, inr, refl, sym, ◌∙◌, arith, rules}
use Rattle.std.specs.Prelude.{is_some}
use Rattle.std.specs.FinMap as map
use Rattle.iceoryx2_world.specs.Orders.{hash_cmp}
use Rattle.iceoryx2_table.proofs.Changes.{no_make, make_starves, make_starves_room, makes}
use Rattle.iceoryx2_large_table.proofs.services.ServicesSteps.make.Goals as goal

pub returns-then-is_some : goal.returns-then-is_some
returns-then-is_some g c =
    let there : is_some (map.get (g.M.Segments.FiniteMap.seen hash_cmp c.args.self.now.segments) c.args.hash.now) ≡ true = search rules in
    inl ((no_make _ c.args.participant c.args.hash.now c.args.max_nodes c.in-Locked.number refl (sym c.phase_at.ensures ∙ c.in-Locked.is) there, refl), refl)

pub returns-in_default-new : goal.returns-in_default-new
returns-in_default-new g c =
    let absent : is_some (map.get (g.M.Segments.FiniteMap.seen hash_cmp c.args.self.now.segments) c.args.hash.now) ≡ false = search rules in
    (make_starves c.args.participant c.args.hash.now c.args.max_nodes c.in-Locked.number refl refl (sym c.phase_at.ensures ∙ c.in-Locked.is) absent (omega (arith, c.if-max_nodes-eq0.false)), refl)

pub returns-in_default-reserve_at : goal.returns-in_default-reserve_at
returns-in_default-reserve_at g c =
    let absent : is_some (map.get (g.M.Segments.FiniteMap.seen hash_cmp c.args.self.now.segments) c.args.hash.now) ≡ false = search rules in
    (make_starves_room c.args.participant c.args.hash.now c.args.max_nodes c.in-Locked.number refl refl (sym c.phase_at.ensures ∙ c.in-Locked.is) absent (omega (arith, c.if-max_nodes-eq0.false)) c.in_default-reserve_at.ensures.same, refl)

pub returns-in_default-write_down : goal.returns-in_default-write_down
returns-in_default-write_down g c =
    let absent : is_some (map.get (g.M.Segments.FiniteMap.seen hash_cmp c.args.self.now.segments) c.args.hash.now) ≡ false = search rules in
    inr ((make_starves_room c.args.participant c.args.hash.now c.args.max_nodes c.in-Locked.number refl refl (sym c.phase_at.ensures ∙ c.in-Locked.is) absent (omega (arith, c.if-max_nodes-eq0.false)) c.in-Ok-reserve_at.ensures.same).3, c.in_default-write_down.ensures.refused)

pub returns : goal.returns
returns g c =
    let absent : is_some (map.get (g.M.Segments.FiniteMap.seen hash_cmp c.args.self.now.segments) c.args.hash.now) ≡ false = search rules in (
      makes c.args.participant c.args.hash.now c.args.max_nodes c.in-Locked.number refl refl (sym c.phase_at.ensures ∙ c.in-Locked.is) absent (omega (arith, c.if-max_nodes-eq0.false))
          c.insert_at.ensures c.in-Ok-reserve_at.ensures.same c.in-Ok.ensures c.set_phase.ensures,
      c.in-Ok-write_down.ensures.written,
    )
