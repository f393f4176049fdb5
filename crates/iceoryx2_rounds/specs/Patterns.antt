-- Which pattern a description is of.
use Rattle.std.specs.Prelude.{Bool, true, false}
use Rattle.iceoryx2_description.specs.declared.description.MessagingPattern.{MessagingPattern}
use Rattle.iceoryx2_description.specs.declared.description.MessagingPattern.TheVariants.{Event, PublishSubscribe}
use Rattle.iceoryx2_description.specs.declared.description.MessagingPattern.TheVariants.{RequestResponse}

-- one row a pattern

abbrev pub is_events : MessagingPattern → Bool
is_events (Event settings) = true
is_events (PublishSubscribe settings) = false
is_events (RequestResponse settings) = false

abbrev pub is_publish_subscribe : MessagingPattern → Bool
is_publish_subscribe (Event settings) = false
is_publish_subscribe (PublishSubscribe settings) = true
is_publish_subscribe (RequestResponse settings) = false

abbrev pub is_request_response : MessagingPattern → Bool
is_request_response (Event settings) = false
is_request_response (PublishSubscribe settings) = false
is_request_response (RequestResponse settings) = true
