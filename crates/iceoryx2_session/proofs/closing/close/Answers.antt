use Rattle.std.proofs.Common.{rules}
use Rattle.iceoryx2_session.proofs.Commands.{handed_back_by}
use Rattle.iceoryx2_session.proofs.closing.close.Goals as goal

pub returns-in-Ok : goal.returns-in-Ok
returns-in-Ok g c = search rules

pub returns-in-NotHere : goal.returns-in-NotHere
returns-in-NotHere g c = handed_back_by g.S.Storage.step c.args.registration c.in-NotHere.registration c.in-Err.error c.in-NotHere.is c.in-Err.ensures
