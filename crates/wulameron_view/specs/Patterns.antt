-- Of which pattern a service is.
use Rattle.std.specs.Prelude.{Bool, true, false}
use Rattle.iceoryx2_description.specs.declared.description.MessagingPattern.{MessagingPattern}
use Rattle.iceoryx2_description.specs.declared.description.MessagingPattern.TheVariants as pattern
use Rattle.wulameron_arguments.specs.declared.asked.Pattern.{Pattern}
use Rattle.wulameron_arguments.specs.declared.asked.Pattern.TheVariants as kind

abbrev pub is_of : Pattern → MessagingPattern → Bool
is_of kind.Event (pattern.Event s) = true
is_of kind.PublishSubscribe (pattern.PublishSubscribe s) = true
is_of kind.RequestResponse (pattern.RequestResponse s) = true
is_of _ _ = false
