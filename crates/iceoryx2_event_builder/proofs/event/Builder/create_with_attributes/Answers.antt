use Rattle.std.proofs.Common.{refl}
use Rattle.iceoryx2_rounds.proofs.JoinedGrants.{created_of}
use Rattle.iceoryx2_rounds.specs.Patterns.{is_events}
use Rattle.iceoryx2_event_builder.proofs.event.Builder.create_with_attributes.Goals as goal

pub into_factory-requires : goal.into_factory-requires
into_factory-requires g c = created_of is_events _ _ c.create_once.ensures refl

pub returns : goal.returns
returns g c =
    let made = rw (c.attributes.ensures.value, c.into_caller-caller.ensures) at c.create_once.ensures in
    rw (← c.self.view_is, c.into_factory.ensures) made
