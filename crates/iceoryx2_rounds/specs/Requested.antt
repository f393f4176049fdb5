-- What a builder asks of a message's types, whatever its pattern.
use Rattle.std.specs.Prelude.{None}
use Rattle.iceoryx2_types.specs.Types.{Detail, Message, message_of, with_overrides, with_variant}
use Rattle.iceoryx2_types.specs.declared.types.TypeVariant.TheVariants.{FixedSize}
use Rattle.iceoryx2_rounds.specs.declared.requested.RequestedTypes.{RequestedTypes}

-- each type is the message's own, and aligned as it is
abbrev pub no_types : RequestedTypes
no_types = record { user_header = None; payload = None; alignment = None }

-- One header, a payload and one user header, with what stands in the place of the last two and how far the payload is
-- aligned.
abbrev pub requested_message : (header payload user_header : Detail) → RequestedTypes → Message
requested_message header payload user_header types =
    with_overrides (message_of (with_variant header FixedSize) (with_variant user_header FixedSize) payload)
    types.user_header types.payload types.alignment
