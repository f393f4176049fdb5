use Rattle.std.proofs.Common.{refl}
use Rattle.iceoryx2_rounds.specs.Patterns.{is_events}
use Rattle.iceoryx2_rounds.proofs.Granted.{joined_carries, carried_of}
use Rattle.iceoryx2_event_builder.proofs.Granted.{what_fits}
use Rattle.iceoryx2_event_builder.proofs.event.Builder.open_or_create_with_attributes.Goals as goal

pub new-requires : goal.new-requires
new-requires g c = carried_of is_events (λ asked d. what_fits d.pattern) (λ asked now. refl) (joined_carries c.in-Ok.ensures)
