use Rattle.iceoryx2_world.proofs.Waiting.{batch_others, table_run, idle_run, own_access, waiting_after, refusable_run}
use Rattle.iceoryx2_world.proofs.Counting.{run_counts, sure_step}
use Rattle.iceoryx2_world.proofs.laws.batches.Goals as goal

pub returns-clause-batch : goal.returns-clause-batch
returns-clause-batch g = λ own s t batch. batch_others {own = own}

pub returns-clause-run : goal.returns-clause-run
returns-clause-run g = λ own s t word. table_run {own = own}

pub returns-clause-refusable : goal.returns-clause-refusable
returns-clause-refusable g = λ own s t word. refusable_run {own = own}

pub returns-clause-quiet : goal.returns-clause-quiet
returns-clause-quiet g = λ s t word. idle_run

pub returns-clause-own : goal.returns-clause-own
returns-clause-own g = own_access

pub returns-clause-taken : goal.returns-clause-taken
returns-clause-taken g = λ s t word. waiting_after

pub returns-clause-counts : goal.returns-clause-counts
returns-clause-counts g = λ s t word. run_counts

pub returns-clause-sure : goal.returns-clause-sure
returns-clause-sure g = sure_step
