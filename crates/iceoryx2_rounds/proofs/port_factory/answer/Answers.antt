use Rattle.std.proofs.Common.{rules}
use Rattle.iceoryx2_rounds.proofs.port_factory.answer.Goals as goal

pub returns-then-is_err-2 : goal.returns-then-is_err-2
returns-then-is_err-2 c = search rules

pub returns-then-is_err-3 : goal.returns-then-is_err-3
returns-then-is_err-3 c = search rules
