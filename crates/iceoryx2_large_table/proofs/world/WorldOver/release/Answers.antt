use Rattle.std.proofs.Common.{refl}
use Rattle.std.specs.FinMap.{nat_cmp-IsAntisymmetric}
use Rattle.iceoryx2_table.proofs.OwnParts.{not_held}
use Rattle.iceoryx2_table.proofs.Recording.{barred, release_not_done, release_done}
use Rattle.iceoryx2_large_table.proofs.world.WorldOver.release.Goals as goal

pub returns-then-not-is_held : goal.returns-then-not-is_held
returns-then-not-is_held g c = barred refl refl (not_held c.args.node c.args.hash.now c.self.view_is c.args.ticket c.args.number c.get_at.ensures c.is_held.ensures c.if-not-is_held.true) refl

pub returns-in_default : goal.returns-in_default
returns-in_default g c = release_not_done c.args.node c.args.hash.now c.self.view_is c.args.ticket c.args.number c.get_at.ensures c.is_held.ensures c.if-not-is_held.false c.in_default.ensures

pub returns : goal.returns
returns g c = release_done c.args.node c.args.hash.now c.self.view_is c.args.ticket c.args.number c.get_at.ensures c.is_held.ensures _ c.if-not-is_held.false c.in-Some.ensures (c.remove_at.ensures.effect nat_cmp-IsAntisymmetric)
