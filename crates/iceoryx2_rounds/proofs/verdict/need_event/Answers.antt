use Rattle.std.proofs.Common.{rules}
use Rattle.iceoryx2_rounds.specs.Verdict.{verdict, marked_clauses, number_is}
use Rattle.iceoryx2_rounds.proofs.verdict.need_event.Goals as goal

pub returns-else-is_marked : goal.returns-else-is_marked
unfolding verdict marked_clauses number_is
returns-else-is_marked c = search rules
