-- What is granted is of events.
use Rattle.std.proofs.Common.{◌≡◌, true, None, refl}
use Rattle.iceoryx2_description.specs.declared.description.MessagingPattern.{MessagingPattern}
use Rattle.iceoryx2_description.specs.declared.description.MessagingPattern.TheVariants as existing
use Rattle.iceoryx2_rounds.specs.Patterns.{is_events}
use Rattle.iceoryx2_event_builder.specs.Event.{misfit_of}

pub what_fits : (pattern : MessagingPattern) → misfit_of pattern ≡ None → is_events pattern ≡ true
what_fits (existing.Event s) e = refl
what_fits (existing.PublishSubscribe s) e = absurd (cc)
what_fits (existing.RequestResponse s) e = absurd (cc)
