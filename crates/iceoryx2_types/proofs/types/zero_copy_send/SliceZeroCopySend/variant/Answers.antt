use Rattle.std.proofs.Common.{refl}
use Rattle.iceoryx2_types.proofs.types.zero_copy_send.SliceZeroCopySend.variant.Goals as goal

pub returns : goal.returns
returns g c = refl
