use Rattle.std.proofs.Common.{inr, refl, ap, ◌∙◌}
use Rattle.std.specs.FinMap as map
use Rattle.iceoryx2_world.specs.Orders.{hash_cmp, place_cmp}
use Rattle.iceoryx2_table.proofs.Changes.{lock_starves, locks}
use Rattle.iceoryx2_large_table.proofs.Found.{free}
use Rattle.iceoryx2_large_table.proofs.services.ServicesSteps.lock.Goals as goal

pub returns-in_default : goal.returns-in_default
returns-in_default g c = (
  lock_starves c.args.participant c.args.hash.now refl refl (free (map.get (g.M.Phases.FiniteMap.seen place_cmp c.args.self.now.phases) (c.args.participant, c.args.hash.now)) c.position_of-position.ensures.phase c.begins.ensures c.if-not-begins.false) c.requires.absent c.if-number-ge18446744073709551615.false c.in_default.ensures.same refl,
  refl,
)

pub returns-in_default-reserve_at : goal.returns-in_default-reserve_at
returns-in_default-reserve_at g c = (
  lock_starves c.args.participant c.args.hash.now refl refl (free (map.get (g.M.Phases.FiniteMap.seen place_cmp c.args.self.now.phases) (c.args.participant, c.args.hash.now)) c.position_of-position.ensures.phase c.begins.ensures c.if-not-begins.false) c.requires.absent c.if-number-ge18446744073709551615.false c.in-Ok.ensures.same c.in_default-reserve_at.ensures.same,
  refl,
)

pub returns-in_default-write_down : goal.returns-in_default-write_down
returns-in_default-write_down g c = inr (
  (lock_starves c.args.participant c.args.hash.now refl refl (free (map.get (g.M.Phases.FiniteMap.seen place_cmp c.args.self.now.phases) (c.args.participant, c.args.hash.now)) c.position_of-position.ensures.phase c.begins.ensures c.if-not-begins.false) c.requires.absent c.if-number-ge18446744073709551615.false c.in-Ok.ensures.same c.in-Ok-reserve_at.ensures.same).3,
  c.in_default-write_down.ensures.refused,
)

pub returns : goal.returns
returns g c = (
  locks c.args.participant c.args.hash.now refl refl (free (map.get (g.M.Phases.FiniteMap.seen place_cmp c.args.self.now.phases) (c.args.participant, c.args.hash.now)) c.position_of-position.ensures.phase c.begins.ensures c.if-not-begins.false) c.requires.absent c.if-number-ge18446744073709551615.false
      (c.insert_at.ensures ∙ ap (λ r. map.insert (g.M.Rows.FiniteMap.seen hash_cmp c.reserve_at.new.self) c.args.hash.now r) c.locked-locked.ensures)
      c.in-Ok.ensures.same c.insert_at-2.ensures c.in-Ok-reserve_at.ensures.same,
  c.in-Ok-write_down.ensures.written,
)
