use Rattle.std.proofs.Common.{sym}
use Rattle.iceoryx2_access.proofs.Run.{joins, one}
use Rattle.iceoryx2_access.specs.Run.{next}
use Rattle.iceoryx2_rounds.specs.OpenParts.{untagged, got, refused, looked, again}
use Rattle.iceoryx2_rounds.proofs.OpenSteps.{only_failed}
use Rattle.iceoryx2_rounds.proofs.open.open_with_tag.Goals as goal

pub returns-in-Err : goal.returns-in-Err
returns-in-Err g c = rw (c.open_refusal.ensures, c.tag_refusal.ensures) (joins (untagged c.in-Err.error) (one c.in-Err.ensures))

pub returns-in-Ok-open_segment : goal.returns-in-Ok-open_segment
returns-in-Ok-open_segment g c = joins (got c.in-Ok-open_segment.ticket c.in-Ok.tag) (next c.in-Ok.ensures (one c.in-Ok-open_segment.ensures))

pub returns-in-Some : goal.returns-in-Some
returns-in-Some g c =
    let back = c.give_back_tag.ensures in
    rw c.open_refusal-in-Some.ensures (joins (refused c.in-Err-open_segment.error (sym c.in-Some.ensures) back.is_word) (next c.in-Ok.ensures (next c.in-Err-open_segment.ensures back.run)))

pub returns-in-Some-look_again : goal.returns-in-Some-look_again
returns-in-Some-look_again g c =
    let more = c.in-Some-look_again.ensures in
    let failed = only_failed c.in-Err-open_segment.error (sym c.in-None.ensures) in
    joins (looked more.is_word) (next c.in-Ok.ensures (next (rw failed at c.in-Err-open_segment.ensures) more.run))

pub returns-in-None-look_again : goal.returns-in-None-look_again
returns-in-None-look_again g c =
    let more = c.in-None-look_again.ensures in
    let failed = only_failed c.in-Err-open_segment.error (sym c.in-None.ensures) in
    joins (again more.is_word) (next c.in-Ok.ensures (next (rw failed at c.in-Err-open_segment.ensures) more.run))
