use Rattle.std.proofs.Common.{Some, ap, subst, ◌∙◌}
use Rattle.std.specs.Ordering.{nat_cmp}
use Rattle.finite_map.specs.Sorted.{map_of}
use Rattle.iceoryx2_world.specs.Orders.{tag_cmp}
use Rattle.iceoryx2_table.specs.ServicesState.{world_with}
use Rattle.iceoryx2_table.specs.Holdings.{held_tag, held_ticket, IsHolding}
use Rattle.iceoryx2_table.proofs.Held.{by_service, by_tag, by_ticket}
use Rattle.iceoryx2_table.proofs.table.stored.StoredWorld.holding.Goals as goal

pub returns-in-Some : goal.returns-in-Some
returns-in-Some c =
    let i = c.args.node in
    subst (λ w. IsHolding w i (Some c.in-Some.ticket)) c.self.view_is
    (by_ticket (world_with c.self.inside.services (map_of tag_cmp c.self.inside.tags) (map_of nat_cmp c.self.inside.tickets)) i
    (c.first_ticket.ensures ∙ ap (held_ticket i) c.entries.ensures) c.in-Some.is)

pub returns-in-Some-unfinished : goal.returns-in-Some-unfinished
returns-in-Some-unfinished c =
    let i = c.args.node in
    subst (λ w. IsHolding w i (Some c.in-Some-unfinished.service)) c.self.view_is
    (by_service (world_with c.self.inside.services (map_of tag_cmp c.self.inside.tags) (map_of nat_cmp c.self.inside.tickets)) i
    (c.first_ticket.ensures ∙ ap (held_ticket i) c.entries.ensures) c.in_default.is
    c.unfinished.ensures c.in-Some-unfinished.is)

pub returns : goal.returns
returns c =
    let i = c.args.node in
    subst (λ w. IsHolding w i c.first_tag.result) c.self.view_is
    (by_tag (world_with c.self.inside.services (map_of tag_cmp c.self.inside.tags) (map_of nat_cmp c.self.inside.tickets)) i
    (c.first_ticket.ensures ∙ ap (held_ticket i) c.entries.ensures) c.in_default.is
    c.unfinished.ensures c.in_default-unfinished.is
    (c.first_tag.ensures ∙ ap (held_tag i) c.entries-2.ensures))
