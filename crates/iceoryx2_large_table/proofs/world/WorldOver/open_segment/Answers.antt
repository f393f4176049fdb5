use Rattle.std.proofs.Common.{refl, sym, ap, ◌∙◌}
use Rattle.std.specs.FinMap as map
use Rattle.iceoryx2_world.specs.declared.world.Participant.TheVariants.{Node}
use Rattle.iceoryx2_world.specs.declared.world.Phase.{Phase}
use Rattle.iceoryx2_world.specs.Access.{open_refusal}
use Rattle.iceoryx2_world.specs.Orders.{hash_cmp}
use Rattle.iceoryx2_table.proofs.OwnParts.{open_refused, open_no_ticket, open_starved}
use Rattle.iceoryx2_table.proofs.Recording.{barred, open_not_done, open_done}
use Rattle.iceoryx2_large_table.proofs.Found.{join_keeps}
use Rattle.iceoryx2_large_table.proofs.world.WorldOver.open_segment.Goals as goal

pub returns-in-Some : goal.returns-in-Some
returns-in-Some g c =
    let test = (c.open_refusal.ensures ∙ ap (λ (x : Phase). open_refusal c.args.number (map.get (g.M.Segments.FiniteMap.seen hash_cmp c.self.inside.services.segments) c.args.hash.now) c.self.inside.services.counter x) c.position-position.ensures.phase) in
    barred refl refl (open_refused c.args.node c.args.hash.now c.self.view_is c.args.number refl test _ c.in-Some.is) refl

pub returns-in_default-reserve_at : goal.returns-in_default-reserve_at
returns-in_default-reserve_at g c =
    let test = (c.open_refusal.ensures ∙ ap (λ (x : Phase). open_refusal c.args.number (map.get (g.M.Segments.FiniteMap.seen hash_cmp c.self.inside.services.segments) c.args.hash.now) c.self.inside.services.counter x) c.position-position.ensures.phase) in
    barred refl refl (open_no_ticket c.args.node c.args.hash.now c.self.view_is c.args.number refl test c.in_default.is c.in_default-reserve_at.ensures.same) refl

pub returns-in_default-join : goal.returns-in_default-join
returns-in_default-join g c =
    let test = (c.open_refusal.ensures ∙ ap (λ (x : Phase). open_refusal c.args.number (map.get (g.M.Segments.FiniteMap.seen hash_cmp c.self.inside.services.segments) c.args.hash.now) c.self.inside.services.counter x) c.position-position.ensures.phase) in
    barred refl refl (open_starved c.args.node c.args.hash.now c.self.view_is c.args.number refl test c.in_default.is c.in_default-join.ensures.0 c.in-Ok.ensures.same) c.in_default-join.ensures.1

pub returns-then-not-joined : goal.returns-then-not-joined
returns-then-not-joined g c =
    let test = (c.open_refusal.ensures ∙ ap (λ (x : Phase). open_refusal c.args.number (map.get (g.M.Segments.FiniteMap.seen hash_cmp c.self.inside.services.segments) c.args.hash.now) c.self.inside.services.counter x) c.position-position.ensures.phase) in
    open_not_done c.args.node c.args.hash.now c.self.view_is c.args.number refl test _ c.in_default.is c.if-not-joined.true c.in-Ok-join.ensures c.in-Ok.ensures.same

pub returns : goal.returns
returns g c =
    let test = (c.open_refusal.ensures ∙ ap (λ (x : Phase). open_refusal c.args.number (map.get (g.M.Segments.FiniteMap.seen hash_cmp c.self.inside.services.segments) c.args.hash.now) c.self.inside.services.counter x) c.position-position.ensures.phase) in
    let still = join_keeps _ _ _ _ _ _ (Node c.args.node) c.args.hash.now c.if-not-joined.false c.in-Ok-join.ensures in
    open_done c.args.node c.args.hash.now c.self.view_is c.args.number refl test _ c.in_default.is c.if-not-joined.false c.in-Ok-join.ensures
    (c.counter-ticket.ensures ∙ sym still) c.next_number-handed_out.ensures.effect c.insert_at.ensures c.ticket_for-held.ensures c.in-Ok.ensures.same
