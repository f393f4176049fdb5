use Rattle.std.proofs.Common.{inr, refl, sym, ap, ◌∙◌}
use Rattle.std.specs.FinMap as map
use Rattle.finite_map.specs.Sorted.{map_of}
use Rattle.iceoryx2_world.specs.Orders.{hash_cmp}
use Rattle.iceoryx2_table.proofs.Changes.{lock_starves, locks}
use Rattle.iceoryx2_table.proofs.services.Services.lock.Goals as goal

pub returns-then-is_err : goal.returns-then-is_err
returns-then-is_err g c = (lock_starves c.args.participant c.args.hash.now c.self.view_is c.position_of-position.ensures (sym c.begins.ensures ∙ c.if-not-begins.false) c.requires.absent c.if-number-ge18446744073709551615.false c.reserve_at.ensures.same refl, refl)

pub returns-then-is_err-2 : goal.returns-then-is_err-2
returns-then-is_err-2 g c = (lock_starves c.args.participant c.args.hash.now c.self.view_is c.position_of-position.ensures (sym c.begins.ensures ∙ c.if-not-begins.false) c.requires.absent c.if-number-ge18446744073709551615.false c.reserve_at.ensures.same c.reserve_at-2.ensures.same, refl)

pub returns-in_default : goal.returns-in_default
returns-in_default g c = inr ((lock_starves c.args.participant c.args.hash.now c.self.view_is c.position_of-position.ensures (sym c.begins.ensures ∙ c.if-not-begins.false) c.requires.absent c.if-number-ge18446744073709551615.false c.reserve_at.ensures.same c.reserve_at-2.ensures.same).3, c.in_default.ensures.refused)

pub returns : goal.returns
returns g c = (
  locks c.args.participant c.args.hash.now c.self.view_is c.position_of-position.ensures (sym c.begins.ensures ∙ c.if-not-begins.false) c.requires.absent c.if-number-ge18446744073709551615.false
      (c.insert_at.ensures.effect ∙ ap (λ r. map.insert (map_of hash_cmp c.reserve_at.new.self) c.args.hash.now r) c.locked-locked.ensures)
      c.reserve_at.ensures.same c.insert_at-2.ensures.effect c.reserve_at-2.ensures.same,
  c.in-Ok.ensures.written,
)
