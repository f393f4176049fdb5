use Rattle.iceoryx2_postgres_log.proofs.Undone.{move_rows, ends_behind}
use Rattle.iceoryx2_postgres_log.proofs.compacting.copied.Goals as goal

pub returns-in-Err-ask_copies-clause-err : goal.returns-in-Err-ask_copies-clause-err
returns-in-Err-ask_copies-clause-err g c =
    ends_behind _ _ _ _ _ _ _ (move_rows _ _ _ _ _ _ _ c.in-Ok.ensures.ok) c.in-Err-ask_copies.ensures.err
