use Rattle.escaped_serve.proofs.AskingCall.{again, one_line, only}
use Rattle.escaped_serve.proofs.asking.law_of_asking.Goals as goal

pub returns-clause-again : goal.returns-clause-again
returns-clause-again c = λ node slot d small_node small_slot is. again node slot d small_node small_slot is c.new-none.result

pub returns-clause-only : goal.returns-clause-only
returns-clause-only c =
    λ node slot d l small_node small_slot is. only node slot d small_node small_slot is c.new-none.result l

pub returns-clause-one_line : goal.returns-clause-one_line
returns-clause-one_line c = one_line
