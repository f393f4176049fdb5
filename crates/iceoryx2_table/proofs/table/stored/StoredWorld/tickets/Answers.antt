use Rattle.std.proofs.Common.{ℕ, List, ap, ◌∙◌}
use Rattle.std.specs.Prelude.{length, filter}
use Rattle.iceoryx2_world.specs.declared.world.Ticket.{Ticket}
use Rattle.iceoryx2_world.specs.World.{World, belongs, ticket_count}
use Rattle.iceoryx2_table.proofs.table.stored.StoredWorld.tickets.Goals as goal

pub returns : goal.returns
returns c =
    let i = c.args.node in
    let h = c.args.hash.now in
    c.count_held.ensures
    ∙ ap (λ (es : List (ℕ × Ticket)). length (filter (belongs i h) es)) c.entries.ensures
    ∙ ap (λ (w : World). ticket_count w.tickets i h) c.self.view_is
