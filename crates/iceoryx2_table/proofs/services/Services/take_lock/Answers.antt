use Rattle.std.proofs.Common.{rules}
use Rattle.iceoryx2_table.proofs.services.Services.take_lock.Goals as goal

pub lock-requires-clause-absent : goal.lock-requires-clause-absent
lock-requires-clause-absent c = search rules
