use Rattle.iceoryx2_access.proofs.Run.{joins}
use Rattle.iceoryx2_access.specs.Run.{done}
use Rattle.iceoryx2_rounds.proofs.CreateSteps.{not_copied}
use Rattle.iceoryx2_rounds.proofs.create.create_described.Goals as goal

pub returns-in-Err : goal.returns-in-Err
returns-in-Err g c asked = rw (c.create_error.ensures asked) (joins (λ d same. not_copied) done)

pub returns : goal.returns
returns g c asked =
    let rest = c.make_tagged-created.ensures asked in
    rw (c.registration_of.ensures) (joins (λ d same. rw (← (rw c.in-Ok.is at same)) rest.is_word) rest.run)
