use Rattle.iceoryx2_session.proofs.Finished.{table_closed, table_taken_out, all_left, emptied}
use Rattle.iceoryx2_session.proofs.Shown.{slots_at_table}
use Rattle.iceoryx2_session.proofs.session.Session.finish.Goals as goal

pub returns-clause-closes : goal.returns-clause-closes
returns-clause-closes g c = slots_at_table g.S.Storage.step g.S.TableStorage.shown g.met.S.TableStorage.accesses c.close_all.ensures.own

pub returns-clause-stands : goal.returns-clause-stands
returns-clause-stands g c = λ agrees old. table_closed agrees old (returns-clause-closes g c)

pub returns-clause-no_tickets : goal.returns-clause-no_tickets
returns-clause-no_tickets g c = λ agrees old owned. table_taken_out agrees old owned (returns-clause-closes g c)

pub returns-clause-quiet : goal.returns-clause-quiet
returns-clause-quiet g c = λ q quiet old. all_left c.args.self.config q quiet old (returns-clause-closes g c)

pub returns-clause-empty : goal.returns-clause-empty
returns-clause-empty g c = λ q quiet old owned. emptied c.args.self.config q quiet old owned (returns-clause-closes g c)
