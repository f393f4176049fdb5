use Rattle.std.proofs.Common.{refl, sym, ap, ◌∙◌}
use Rattle.iceoryx2_world.specs.declared.world.Phase.{Phase}
use Rattle.iceoryx2_world.specs.Access.{has_made}
use Rattle.iceoryx2_table.proofs.OwnParts.{not_made, not_fitting, no_ticket, publish_starved}
use Rattle.iceoryx2_table.proofs.Recording.{barred, publish_not_done, publish_done}
use Rattle.iceoryx2_large_table.proofs.world.WorldOver.publish.Goals as goal

pub returns-then-not-has_made : goal.returns-then-not-has_made
returns-then-not-has_made g c =
    let test = (c.has_made.ensures ∙ ap (λ (x : Phase). has_made c.args.number x) c.position-position.ensures.phase) in
    barred refl refl (not_made c.args.node c.args.hash.now c.self.view_is c.args.number c.args.description.now refl test c.if-not-has_made.true) refl

pub returns-then-not-has_segment_for : goal.returns-then-not-has_segment_for
returns-then-not-has_segment_for g c =
    let test = (c.has_made.ensures ∙ ap (λ (x : Phase). has_made c.args.number x) c.position-position.ensures.phase) in
    barred refl refl (not_fitting c.args.node c.args.hash.now c.self.view_is c.args.number c.args.description.now refl test c.if-not-has_made.false (sym c.has_segment_for.ensures ∙ c.if-not-has_segment_for.true)) refl

pub returns-in_default : goal.returns-in_default
returns-in_default g c =
    let test = (c.has_made.ensures ∙ ap (λ (x : Phase). has_made c.args.number x) c.position-position.ensures.phase) in
    barred refl refl (no_ticket c.args.node c.args.hash.now c.self.view_is c.args.number c.args.description.now refl test c.if-not-has_made.false (sym c.has_segment_for.ensures ∙ c.if-not-has_segment_for.false) c.in_default.ensures.same) refl

pub returns-in_default-publish : goal.returns-in_default-publish
returns-in_default-publish g c =
    let test = (c.has_made.ensures ∙ ap (λ (x : Phase). has_made c.args.number x) c.position-position.ensures.phase) in
    barred refl refl (publish_starved c.args.node c.args.hash.now c.self.view_is c.args.number c.args.description.now refl test c.if-not-has_made.false c.in_default-publish.ensures.effect.0 c.in-Ok.ensures.same) c.in_default-publish.ensures.effect.1

pub returns-then-not-published : goal.returns-then-not-published
returns-then-not-published g c =
    let test = (c.has_made.ensures ∙ ap (λ (x : Phase). has_made c.args.number x) c.position-position.ensures.phase) in
    publish_not_done c.args.node c.args.hash.now c.self.view_is c.args.number c.args.description.now refl test _ c.if-not-has_made.false c.if-not-published.true c.in-Ok-publish.ensures.effect c.in-Ok.ensures.same

pub returns : goal.returns
returns g c =
    let test = (c.has_made.ensures ∙ ap (λ (x : Phase). has_made c.args.number x) c.position-position.ensures.phase) in
    publish_done c.args.node c.args.hash.now c.self.view_is c.args.number c.args.description.now refl test _ c.if-not-has_made.false c.if-not-published.false
    c.in-Ok-publish.ensures.effect c.in-Ok-publish.ensures.limits c.insert_at.ensures c.ticket_for-held.ensures c.in-Ok.ensures.same
