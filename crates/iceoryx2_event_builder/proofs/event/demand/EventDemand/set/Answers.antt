use Rattle.std.proofs.Common.{rules}
use Rattle.iceoryx2_event_builder.proofs.event.demand.EventDemand.set.Goals as goal

pub returns-in-Deadline : goal.returns-in-Deadline
returns-in-Deadline c = search rules

pub returns-in-NotifierDroppedEvent : goal.returns-in-NotifierDroppedEvent
returns-in-NotifierDroppedEvent c = search rules

pub returns-in-NotifierDeadEvent : goal.returns-in-NotifierDeadEvent
returns-in-NotifierDeadEvent c = search rules
