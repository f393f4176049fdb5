use Rattle.iceoryx2_testing.proofs.ScriptRuns.{plays_front, few, counted_along}
use Rattle.iceoryx2_testing.proofs.laws.scripts.Goals as goal

pub returns-clause-front : goal.returns-clause-front
returns-clause-front c = plays_front

pub returns-clause-few : goal.returns-clause-few
returns-clause-few c = λ a b word run. few (plays_front a b word run)

pub returns-clause-counters : goal.returns-clause-counters
returns-clause-counters c = λ a b word run. counted_along (λ s. s.counters) (λ s t l h. h.counters) run
