use Rattle.iceoryx2_access.proofs.Run.{joins, one, both}
use Rattle.iceoryx2_access.specs.Run.{next}
use Rattle.iceoryx2_rounds.specs.Creates.{not_locked, no_segment, not_published, published}
use Rattle.iceoryx2_rounds.proofs.create.make_service.Goals as goal

pub returns-in-Err : goal.returns-in-Err
returns-in-Err g c asked =
    let back = c.give_back_tag.ensures in
    rw (c.create_error.ensures asked, c.lock_refusal.ensures) (joins (not_locked c.in-Err.error back.is_word) (next c.in-Err.ensures back.run))

pub returns-in-Err-make_own_segment : goal.returns-in-Err-make_own_segment
returns-in-Err-make_own_segment g c asked =
    let segment = rw c.max_nodes-max_nodes.ensures.value at c.in-Err-make_own_segment.ensures in
    let back = c.give_back_lock.ensures in
    rw (c.create_error-in-Err-make_own_segment.ensures asked) (joins (no_segment segment.is_word back.is_word) (next c.in-Ok.ensures (both segment.run back.run)))

pub returns-in-Ok-publish : goal.returns-in-Ok-publish
returns-in-Ok-publish g c asked =
    let segment = rw c.max_nodes-max_nodes.ensures.value at c.in-Ok-make_own_segment.ensures in
    joins (published c.in-Ok.number c.in-Ok-publish.ticket segment.is_word) (next c.in-Ok.ensures (both segment.run (one c.in-Ok-publish.ensures)))

pub returns-in-Err-publish : goal.returns-in-Err-publish
returns-in-Err-publish g c asked =
    let segment = rw c.max_nodes-max_nodes.ensures.value at c.in-Ok-make_own_segment.ensures in
    let back = c.give_back_segment.ensures in
    rw (c.create_error-in-Err-publish.ensures asked, c.publish_refusal.ensures) (joins (not_published c.in-Err-publish.error segment.is_word back.is_word) (next c.in-Ok.ensures (both segment.run (next c.in-Err-publish.ensures back.run))))
