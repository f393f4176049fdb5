use Rattle.iceoryx2_rounds.proofs.JoinedGrants.{opened_of}
use Rattle.iceoryx2_rounds.specs.Patterns.{is_events}
use Rattle.iceoryx2_event_builder.proofs.Granted.{what_fits}
use Rattle.iceoryx2_event_builder.proofs.event.Builder.open_with_attributes.Goals as goal

pub into_factory-requires : goal.into_factory-requires
into_factory-requires g c = opened_of is_events _ c.open.ensures (λ d. what_fits d.pattern)

pub returns : goal.returns
returns g c =
    let answer = rw c.into_caller-caller.ensures at c.open.ensures in
    rw (← c.self.view_is, c.into_factory.ensures) answer
