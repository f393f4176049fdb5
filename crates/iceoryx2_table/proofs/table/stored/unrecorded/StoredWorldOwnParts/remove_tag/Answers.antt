use Rattle.iceoryx2_table.proofs.Recording.{is_own_part}
use Rattle.iceoryx2_table.proofs.table.stored.unrecorded.StoredWorldOwnParts.remove_tag.Goals as goal

pub returns : goal.returns
returns c = is_own_part (λ _ _ no. no) c.remove_tag.ensures
