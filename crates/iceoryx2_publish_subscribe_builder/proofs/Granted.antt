-- What is granted is of publish-subscribe.
use Rattle.std.proofs.Common.{◌≡◌, true, None, refl}
use Rattle.iceoryx2_types.specs.Types.{Message}
use Rattle.iceoryx2_description.specs.declared.description.MessagingPattern.{MessagingPattern}
use Rattle.iceoryx2_description.specs.declared.description.MessagingPattern.TheVariants as existing
use Rattle.iceoryx2_rounds.specs.Patterns.{is_publish_subscribe}
use Rattle.iceoryx2_publish_subscribe_builder.specs.PublishSubscribe.{misfit_of}

pub what_fits : (message : Message) (pattern : MessagingPattern) → misfit_of message pattern ≡ None → is_publish_subscribe pattern ≡ true
what_fits message (existing.Event s) e = absurd (cc)
what_fits message (existing.PublishSubscribe s) e = refl
what_fits message (existing.RequestResponse s) e = absurd (cc)
