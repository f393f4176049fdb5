use Rattle.iceoryx2_access.proofs.Run.{joins, both}
use Rattle.iceoryx2_rounds.specs.Opens.{look_faulty, look_none}
use Rattle.iceoryx2_rounds.proofs.RoundAttributes.{looks}
use Rattle.iceoryx2_rounds.proofs.open.try_open.Goals as goal

pub returns-in-Faulty : goal.returns-in-Faulty
returns-in-Faulty g c = let seen = c.in-Faulty.ensures in rw c.open_error_of.ensures (joins (look_faulty (looks _ _ _ seen.is_word)) seen.run)

pub returns-in-Nothing : goal.returns-in-Nothing
returns-in-Nothing g c = let seen = c.in-Nothing.ensures in rw c.open_refusal.ensures (joins (look_none (looks _ _ _ seen.is_word)) seen.run)

pub returns : goal.returns
returns g c =
    let seen = c.in-Found.ensures in
    let more = c.open_found-answer.ensures in
    rw c.registration_of.ensures (joins (more.is_word _ (looks _ _ _ seen.is_word)) (both seen.run more.run))
