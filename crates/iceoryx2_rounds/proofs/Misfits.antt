-- A message fits itself.
use Rattle.std.proofs.Common.{◌≡◌, true}
use Rattle.iceoryx2_types.specs.Types.{Message, compatible}
use Rattle.iceoryx2_types.proofs.Compatible.{decided, reflexive}

pub fits_itself : (message : Message) → compatible message message ≡ true
fits_itself message = (decided message message).1 (reflexive message)
