use Rattle.std.proofs.Common.{refl, sym, ◌∙◌}
use Rattle.iceoryx2_table.proofs.OwnParts.{not_made, not_fitting, no_ticket, publish_starved}
use Rattle.iceoryx2_table.proofs.Recording.{barred, publish_not_done, publish_done}
use Rattle.iceoryx2_table.proofs.table.stored.StoredWorld.publish.Goals as goal

pub returns-then-not-has_made : goal.returns-then-not-has_made
returns-then-not-has_made g c = barred refl refl (not_made c.args.node c.args.hash.now c.self.view_is c.args.number c.args.description.now c.position-position.ensures c.has_made.ensures c.if-not-has_made.true) refl

pub returns-then-not-has_segment_for : goal.returns-then-not-has_segment_for
returns-then-not-has_segment_for g c = barred refl refl (not_fitting c.args.node c.args.hash.now c.self.view_is c.args.number c.args.description.now c.position-position.ensures c.has_made.ensures c.if-not-has_made.false (sym c.has_segment_for.ensures ∙ c.if-not-has_segment_for.true)) refl

pub returns-then-is_err : goal.returns-then-is_err
returns-then-is_err g c = barred refl refl (no_ticket c.args.node c.args.hash.now c.self.view_is c.args.number c.args.description.now c.position-position.ensures c.has_made.ensures c.if-not-has_made.false (sym c.has_segment_for.ensures ∙ c.if-not-has_segment_for.false) c.reserve.ensures.same) refl

pub returns-in_default : goal.returns-in_default
returns-in_default g c = barred refl refl (publish_starved c.args.node c.args.hash.now c.self.view_is c.args.number c.args.description.now c.position-position.ensures c.has_made.ensures c.if-not-has_made.false c.in_default.ensures.effect.0 c.reserve.ensures.same) c.in_default.ensures.effect.1

pub returns-then-not-published : goal.returns-then-not-published
returns-then-not-published g c = publish_not_done c.args.node c.args.hash.now c.self.view_is c.args.number c.args.description.now c.position-position.ensures c.has_made.ensures c.publish.new.self c.if-not-has_made.false c.if-not-published.true c.in-Ok.ensures.effect c.reserve.ensures.same

pub returns : goal.returns
returns g c =
    publish_done c.args.node c.args.hash.now c.self.view_is c.args.number c.args.description.now c.position-position.ensures c.has_made.ensures c.publish.new.self c.if-not-has_made.false c.if-not-published.false
    c.in-Ok.ensures.effect c.in-Ok.ensures.limits c.insert.ensures.effect c.ticket_for.ensures c.reserve.ensures.same
