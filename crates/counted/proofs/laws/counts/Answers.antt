use Rattle.iceoryx2_access.proofs.Run.{run_map}
use Rattle.iceoryx2_access.proofs.Counts.{counted}
use Rattle.counted.proofs.laws.counts.Goals as goal

pub returns-clause-inside : goal.returns-clause-inside
returns-clause-inside g c = λ a b word run. run_map (λ s. s.inner) (λ s t l h. h.inside) run

pub returns-clause-total : goal.returns-clause-total
returns-clause-total g c = λ a b word run. counted (λ s. s.total) (λ s t l h. h.total) run
