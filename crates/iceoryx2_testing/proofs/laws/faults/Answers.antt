use Rattle.iceoryx2_access.proofs.Counts.{counted}
use Rattle.iceoryx2_access.proofs.Run.{run_leaves}
use Rattle.iceoryx2_testing.proofs.ScriptRuns.{refusable, faultless, counted_along}
use Rattle.iceoryx2_testing.proofs.laws.faults.Goals as goal

pub returns-clause-refusable : goal.returns-clause-refusable
returns-clause-refusable g c = λ a b word. refusable

pub returns-clause-faultless : goal.returns-clause-faultless
returns-clause-faultless g c = λ a b word. faultless

pub returns-clause-accesses : goal.returns-clause-accesses
returns-clause-accesses g c = λ a b word run. counted (λ s. s.accesses) (λ s t l h. h.accesses) run

pub returns-clause-counters : goal.returns-clause-counters
returns-clause-counters g c = λ a b word run. counted_along (λ s. s.counters) (λ s t l h. h.counters) run

pub returns-clause-refused : goal.returns-clause-refused
returns-clause-refused g c = λ a b word run. run_leaves (λ s. s.refused) (λ s t l h. h.refused) run
