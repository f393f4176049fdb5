use Rattle.std.proofs.Common.{Some, refl, sym, ap, ◌∙◌}
use Rattle.iceoryx2_world.specs.Access.{nothing}
use Rattle.iceoryx2_table.proofs.OwnParts.{lock_part, lock_starved}
use Rattle.iceoryx2_table.proofs.Recording.{barred, lock_not_done, lock_done}
use Rattle.iceoryx2_table.proofs.Views.{told}
use Rattle.iceoryx2_large_table.proofs.world.WorldOver.lock.Goals as goal

pub returns-in-Locked : goal.returns-in-Locked
returns-in-Locked g c = barred refl refl (lock_part c.args.node c.args.hash.now c.self.view_is _ _ nothing (sym c.in-Some.ensures ∙ ap Some (told c.in-Some.standing.now c.state.ensures c.in-Locked.is)) (refl, refl) (sym c.self.view_is)) refl

pub returns-in-Published : goal.returns-in-Published
returns-in-Published g c = barred refl refl (lock_part c.args.node c.args.hash.now c.self.view_is _ _ nothing (sym c.in-Some.ensures ∙ ap Some (told c.in-Some.standing.now c.state.ensures c.in-Published.is).1) (refl, refl) (sym c.self.view_is)) refl

pub returns-in_default-lock : goal.returns-in_default-lock
returns-in_default-lock g c = barred refl refl (lock_starved c.args.node c.args.hash.now c.self.view_is (sym c.in_default.ensures) c.in_default-lock.ensures.0) c.in_default-lock.ensures.1

pub returns-then-not-locked : goal.returns-then-not-locked
returns-then-not-locked g c = lock_not_done c.args.node c.args.hash.now c.self.view_is _ (sym c.in_default.ensures) c.if-not-locked.true c.in-Ok.ensures

pub returns : goal.returns
returns g c = lock_done c.args.node c.args.hash.now c.self.view_is _ (sym c.in_default.ensures) c.if-not-locked.false c.in-Ok.ensures c.counter-number.ensures
