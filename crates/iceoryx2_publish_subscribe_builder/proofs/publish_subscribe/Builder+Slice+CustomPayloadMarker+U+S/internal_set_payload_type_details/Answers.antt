use Rattle.std.proofs.Common.{rules}
use Rattle.iceoryx2_publish_subscribe_builder.proofs.publish_subscribe.Builder+Slice+CustomPayloadMarker+U+S.internal_set_payload_type_details.Goals as goal

pub returns : goal.returns
returns g c = search rules
