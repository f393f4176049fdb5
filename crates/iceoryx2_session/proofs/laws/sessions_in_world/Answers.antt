use Rattle.iceoryx2_session.proofs.Shown.{run_in_world, goes_in_world}
use Rattle.iceoryx2_session.proofs.laws.sessions_in_world.Goals as goal

pub returns-clause-runs : goal.returns-clause-runs
returns-clause-runs g c = λ old new word run. (run_in_world g.S.Storage.step g.S.WorldStorage.world g.S.WorldStorage.own g.met.S.WorldStorage.accesses g.met.S.WorldStorage.keeps_own run).0

pub returns-clause-goes : goal.returns-clause-goes
returns-clause-goes g c = λ old new command answer goes. (goes_in_world g.S.Storage.step g.S.WorldStorage.world g.S.WorldStorage.own g.met.S.WorldStorage.accesses g.met.S.WorldStorage.keeps_own goes).0

pub returns-clause-nodes : goal.returns-clause-nodes
returns-clause-nodes g c = λ old new word run. (run_in_world g.S.Storage.step g.S.WorldStorage.world g.S.WorldStorage.own g.met.S.WorldStorage.accesses g.met.S.WorldStorage.keeps_own run).1
