use Rattle.std.proofs.Common.{rules}
use Rattle.iceoryx2_rounds.specs.Verdict.{verdict, marked_clauses, at_least}
use Rattle.iceoryx2_rounds.proofs.verdict.need_at_least.Goals as goal

pub returns-then-existing-required : goal.returns-then-existing-required
unfolding verdict marked_clauses at_least
returns-then-existing-required c = search rules
