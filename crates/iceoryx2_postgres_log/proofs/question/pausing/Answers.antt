use Rattle.iceoryx2_postgres_log.proofs.question.pausing.Goals as goal

pub returns : goal.returns
returns c = rw c.in_ok-letting_go.ensures at c.format.ensures.ok
