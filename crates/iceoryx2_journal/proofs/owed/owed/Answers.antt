use Rattle.std.proofs.Common.{ap, ◌∙◌}
use Rattle.iceoryx2_table.specs.Holdings.{held_service}
use Rattle.iceoryx2_journal.specs.Owed.{owed_ticket}
use Rattle.iceoryx2_journal.proofs.FindingOwed.{by_service, by_tag, by_ticket}
use Rattle.iceoryx2_journal.proofs.owed.owed.Goals as goal

pub returns-in-Some : goal.returns-in-Some
returns-in-Some c =
    by_ticket c.args.world.now c.args.node c.args.spared.now (c.owed_ticket.ensures ∙ ap (owed_ticket c.args.node c.args.spared.now) c.tickets_held.ensures) c.in-Some.is

pub returns-in-Some-first_service : goal.returns-in-Some-first_service
returns-in-Some-first_service c =
    by_service c.args.world.now c.args.node c.args.spared.now (c.first_service.ensures ∙ ap (held_service c.args.node) c.phases_held.ensures) c.in-Some-first_service.is

pub returns : goal.returns
returns c =
    by_tag c.args.world.now c.args.node c.args.spared.now (c.owed_ticket.ensures ∙ ap (owed_ticket c.args.node c.args.spared.now) c.tickets_held.ensures) c.in_default.is
    (c.first_service.ensures ∙ ap (held_service c.args.node) c.phases_held.ensures) c.in_default-first_service.is c.owed_tag.ensures
