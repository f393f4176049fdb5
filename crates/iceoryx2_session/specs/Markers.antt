-- What stands in place of a type that no setter names.
use Rattle.std.specs.Prelude.{codes}
use Rattle.iceoryx2_types.specs.Types.{Detail, detail_of, fixed_size}
use Rattle.iceoryx2_types.specs.declared.types.TypeVariant.TheVariants.{Dynamic}

abbrev pub payload_marker : Detail
payload_marker = detail_of Dynamic (codes "CustomPayloadMarker") 1 1

abbrev pub user_header_marker : Detail
user_header_marker = fixed_size (codes "CustomHeaderMarker") 0 1
