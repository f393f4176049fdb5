use Rattle.std.specs.Prelude.{refl}
use Rattle.iceoryx2_world.specs.Interference.{everyone}
use Rattle.iceoryx2_world.proofs.Waiting.{idle_run}
use Rattle.iceoryx2_testing.proofs.ScriptRuns.{faultless}
use Rattle.iceoryx2_world.specs.Tables.{IsTableAccess}
use Rattle.iceoryx2_testing.specs.Faults.{IsInjectedFault}
use Rattle.iceoryx2_call_laws.proofs.calls.Headline.{open_until_released, as_promised, faulty_runs_over_world, of_faulty_table}
use Rattle.iceoryx2_call_laws.proofs.calls.NoRow.{create_over_no_row}
use Rattle.iceoryx2_call_laws.proofs.calls.OverStorages.{access_keeps_standing, call_keeps_agreement, call_keeps_standing, call_leaves_what_is_refused}
use Rattle.iceoryx2_call_laws.proofs.calls.OverStorages.{close_keeps_agreement, close_keeps_standing, close_hands_back, close_takes_ticket_out, close_leaves_what_is_refused}
use Rattle.iceoryx2_call_laws.proofs.fault_laws.agreement_under_faults.Goals as goal

pub returns-clause-of_tables : goal.returns-clause-of_tables
returns-clause-of_tables g c = faulty_runs_over_world

pub returns-clause-keeps_agreement : goal.returns-clause-keeps_agreement
returns-clause-keeps_agreement g c = λ call. call_keeps_agreement everyone (IsInjectedFault IsTableAccess) (λ u. u.inner.world) (of_faulty_table everyone) call

pub returns-clause-close_keeps_agreement : goal.returns-clause-close_keeps_agreement
returns-clause-close_keeps_agreement g c = close_keeps_agreement everyone (IsInjectedFault IsTableAccess) (λ u. u.inner.world) (of_faulty_table everyone)

pub returns-clause-keeps_standing : goal.returns-clause-keeps_standing
returns-clause-keeps_standing g c = λ call. call_keeps_standing everyone (IsInjectedFault IsTableAccess) (λ u. u.inner.world) (of_faulty_table everyone) call

pub returns-clause-close_keeps_standing : goal.returns-clause-close_keeps_standing
returns-clause-close_keeps_standing g c = close_keeps_standing everyone (IsInjectedFault IsTableAccess) (λ u. u.inner.world) (of_faulty_table everyone)

pub returns-clause-access_keeps_standing : goal.returns-clause-access_keeps_standing
returns-clause-access_keeps_standing g c = access_keeps_standing everyone (IsInjectedFault IsTableAccess) (λ u. u.inner.world) (of_faulty_table everyone)

pub returns-clause-not_here : goal.returns-clause-not_here
returns-clause-not_here g c = close_hands_back everyone (IsInjectedFault IsTableAccess) (λ u. u.inner.world) (of_faulty_table everyone)

pub returns-clause-every_open_factory_stands : goal.returns-clause-every_open_factory_stands
returns-clause-every_open_factory_stands g c = λ call. as_promised everyone (IsInjectedFault IsTableAccess) (λ u. u.inner.world) (of_faulty_table everyone) call refl

pub returns-clause-open_until_released : goal.returns-clause-open_until_released
returns-clause-open_until_released g c = λ call. open_until_released everyone (IsInjectedFault IsTableAccess) (λ u. u.inner.world) (of_faulty_table everyone) call refl

pub returns-clause-leaves : goal.returns-clause-leaves
returns-clause-leaves g c = λ call. call_leaves_what_is_refused everyone (IsInjectedFault IsTableAccess) (λ u. u.inner.world) (of_faulty_table everyone) call

pub returns-clause-taken_out : goal.returns-clause-taken_out
returns-clause-taken_out g c = close_takes_ticket_out everyone (IsInjectedFault IsTableAccess) (λ u. u.inner.world) (of_faulty_table everyone)

pub returns-clause-close_leaves : goal.returns-clause-close_leaves
returns-clause-close_leaves g c = close_leaves_what_is_refused everyone (IsInjectedFault IsTableAccess) (λ u. u.inner.world) (of_faulty_table everyone)

pub returns-clause-over_no_row : goal.returns-clause-over_no_row
returns-clause-over_no_row g c = λ m caller word answer s t c. create_over_no_row m caller c.some_nodes c.agrees c.no_row c.is_word (idle_run c.idle (faultless c.run c.unrefused)).0
