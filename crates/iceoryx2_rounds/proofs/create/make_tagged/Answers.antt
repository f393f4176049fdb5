use Rattle.iceoryx2_access.proofs.Run.{joins, one}
use Rattle.iceoryx2_access.specs.Run.{next}
use Rattle.iceoryx2_rounds.proofs.CreateSteps.{untagged, stopped, served}
use Rattle.iceoryx2_rounds.proofs.create.make_tagged.Goals as goal

pub returns-in-Err : goal.returns-in-Err
returns-in-Err g c asked = rw (c.create_error.ensures asked, c.tag_refusal.ensures) (joins (untagged c.in-Err.error) (one c.in-Err.ensures))

pub returns-then-stopped : goal.returns-then-stopped
returns-then-stopped g c asked = let back = c.give_back_tag.ensures in rw (c.create_error-then-stopped.ensures asked) (joins (stopped c.in-Ok.tag c.if-stopped.true back.is_word) (next c.in-Ok.ensures back.run))

pub returns : goal.returns
returns g c asked = let rest = c.make_service.ensures asked in joins (served c.in-Ok.tag c.if-stopped.false rest.is_word) (next c.in-Ok.ensures rest.run)
