use Rattle.iceoryx2_access.proofs.Run.{run_map}
use Rattle.iceoryx2_session.proofs.Shown.{goes_along, goes_at_table}
use Rattle.iceoryx2_session.proofs.laws.sessions.Goals as goal

pub returns-clause-runs : goal.returns-clause-runs
returns-clause-runs g c = λ old new word run. run_map g.S.TableStorage.shown (λ s t l. g.met.S.TableStorage.accesses s l t) run

pub returns-clause-shown : goal.returns-clause-shown
returns-clause-shown g c = λ old new command answer goes. goes_at_table g.S.Storage.step g.S.TableStorage.shown g.met.S.TableStorage.accesses goes

pub returns-clause-world : goal.returns-clause-world
returns-clause-world g c = g.met.S.TableStorage.same_world

pub returns-clause-nodes : goal.returns-clause-nodes
returns-clause-nodes g c = g.met.S.TableStorage.of_everyone

pub returns-clause-along : goal.returns-clause-along
returns-clause-along g c = λ old new command answer goes. goes_along goes
