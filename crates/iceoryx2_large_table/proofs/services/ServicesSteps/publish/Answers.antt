use Rattle.std.proofs.Common.{inr, refl, sym, ap, ◌∙◌}
use Rattle.iceoryx2_world.specs.declared.world.Row.TheVariants as row
use Rattle.iceoryx2_table.proofs.Changes.{publish_starves, publish_starves_room, publishes}
use Rattle.iceoryx2_large_table.proofs.services.ServicesSteps.publish.Goals as goal

pub returns-in_default-encode-clause-effect : goal.returns-in_default-encode-clause-effect
returns-in_default-encode-clause-effect g c = (publish_starves c.args.participant c.args.hash.now c.args.description.now c.in-Made.number refl refl (sym c.phase_at.ensures ∙ c.in-Made.is) c.requires.fits, refl)

pub returns-in_default-reserve_at-clause-effect : goal.returns-in_default-reserve_at-clause-effect
returns-in_default-reserve_at-clause-effect g c = (publish_starves_room c.args.participant c.args.hash.now c.args.description.now c.in-Made.number refl refl (sym c.phase_at.ensures ∙ c.in-Made.is) c.requires.fits c.in_default-reserve_at.ensures.same, refl)

pub returns-in_default-write_down-clause-effect : goal.returns-in_default-write_down-clause-effect
returns-in_default-write_down-clause-effect g c = inr (
  (publish_starves_room c.args.participant c.args.hash.now c.args.description.now c.in-Made.number refl refl (sym c.phase_at.ensures ∙ c.in-Made.is) c.requires.fits c.in-Ok-reserve_at.ensures.same).3,
  c.in_default-write_down.ensures.refused,
)

pub returns-clause-effect : goal.returns-clause-effect
returns-clause-effect g c = (
  publishes c.args.participant c.args.hash.now c.args.description.now c.in-Made.number refl refl (sym c.phase_at.ensures ∙ c.in-Made.is) c.requires.fits
      c.insert_at.ensures c.in-Ok-reserve_at.ensures.same (c.published.ensures ∙ ap (row.Published c.in-Made.number) c.in-Ok.ensures.1) c.set_phase.ensures,
  c.in-Ok-write_down.ensures.written,
)
