use Rattle.iceoryx2_journal.proofs.journal.Journal.refresh.Goals as goal

pub returns-clause-takes : goal.returns-clause-takes
returns-clause-takes g c = (c.catch_up.result, c.catch_up.ensures.takes)
