use Rattle.std.proofs.Common.{◌≢◌, [], rules}
use Rattle.wulameron_c.specs.TableSessions.{answered}
use Rattle.wulameron_c.proofs.table_session.TableSession.answer_into.Goals as goal

pub returns-in-Ok : goal.returns-in-Ok
returns-in-Ok c =
    let not_empty : c.args.line.now ≢ [] = search rules in
    answered not_empty (λ stands. (c.in-Ok.ensures.answered stands, c.in-Ok.ensures.stands stands))
    (rw c.as_bytes-in-Ok.ensures.value at c.write_reply-in-Ok.ensures)
