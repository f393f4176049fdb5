use Rattle.iceoryx2_session.specs.Sessions as goes
use Rattle.iceoryx2_session.proofs.session.Session.list.Goals as goal

pub returns-in-Ok : goal.returns-in-Ok
returns-in-Ok g c = goes.listed c.in-Ok.ensures

pub returns-in-Err : goal.returns-in-Err
returns-in-Err g c = goes.not_listed
