use Rattle.iceoryx2_postgres_log.proofs.question.appending.Goals as goal

pub returns : goal.returns
returns c = rw c.in_ok-digits.ensures at c.format.ensures.ok
