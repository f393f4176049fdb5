use Rattle.iceoryx2_table.proofs.Recording.{is_own_part}
use Rattle.iceoryx2_large_table.proofs.world.unrecorded.WorldOverOwnParts.make_segment.Goals as goal

pub returns : goal.returns
returns g c = is_own_part (λ _ _ no. no) c.make_segment.ensures
