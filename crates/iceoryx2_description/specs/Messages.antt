-- What a description has of messages.
use Rattle.std.specs.Prelude.{◌<◌, ◌^◌}
use Rattle.iceoryx2_types.specs.Types.{Detail, IsDetail, Message}

-- within the limits, as numbers of 64 bits
pub record IsMeasured (d : Detail) : Type 0 where
  pub detail : IsDetail d
  pub size : d.size < 2 ^ 64
  pub alignment : d.alignment < 2 ^ 64

-- each of the three types of a message
pub record IsMeasuredMessage (m : Message) : Type 0 where
  pub header : IsMeasured m.header
  pub user_header : IsMeasured m.user_header
  pub payload : IsMeasured m.payload
