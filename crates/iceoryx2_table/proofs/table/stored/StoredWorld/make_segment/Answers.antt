use Rattle.std.proofs.Common.{refl, sym, ◌∙◌}
use Rattle.iceoryx2_table.proofs.Views.{there_by_place}
use Rattle.iceoryx2_table.proofs.OwnParts.{make_barred, make_exists, make_starved}
use Rattle.iceoryx2_table.proofs.Recording.{barred, make_not_done, make_is_done}
use Rattle.iceoryx2_table.proofs.table.stored.StoredWorld.make_segment.Goals as goal

pub returns-then-not-may_make : goal.returns-then-not-may_make
returns-then-not-may_make g c = barred refl refl (make_barred c.args.node c.args.hash.now c.self.view_is c.args.number c.args.max_nodes c.position-position.ensures c.may_make.ensures c.if-not-may_make.true) refl

pub returns-then-is_ok : goal.returns-then-is_ok
returns-then-is_ok g c = barred refl refl (make_exists c.args.node c.args.hash.now c.self.view_is c.args.number c.args.max_nodes c.position-position.ensures c.may_make.ensures c.if-not-may_make.false (there_by_place _ c.args.hash.now c.segment_place-segment.ensures (sym c.is_ok.ensures.value ∙ c.if-is_ok.true))) refl

pub returns-in_default : goal.returns-in_default
returns-in_default g c = barred refl refl (make_starved c.args.node c.args.hash.now c.self.view_is c.args.number c.args.max_nodes c.position-position.ensures c.may_make.ensures c.if-not-may_make.false c.in_default.ensures.0) c.in_default.ensures.1

pub returns-then-not-made : goal.returns-then-not-made
returns-then-not-made g c = make_not_done c.args.node c.args.hash.now c.self.view_is c.args.number c.args.max_nodes c.position-position.ensures c.may_make.ensures c.make.new.self c.if-not-may_make.false (there_by_place _ c.args.hash.now c.segment_place-segment.ensures (sym c.is_ok.ensures.value ∙ c.if-is_ok.false)) c.if-not-made.true c.in-Ok.ensures

pub returns : goal.returns
returns g c = make_is_done c.args.node c.args.hash.now c.self.view_is c.args.number c.args.max_nodes c.position-position.ensures c.may_make.ensures c.make.new.self c.if-not-may_make.false c.if-not-made.false c.in-Ok.ensures
