use Rattle.iceoryx2_world.specs.Interference.{everyone}
use Rattle.iceoryx2_world.specs.Tables.{IsTableAccess}
use Rattle.iceoryx2_call_laws.proofs.calls.Headline.{of_table}
use Rattle.iceoryx2_session.specs.Sessions.{shown_world}
use Rattle.iceoryx2_session.proofs.StandingSlots.{applies_standing}
use Rattle.iceoryx2_session.proofs.QuietSessions.{moved, unchanged_by}
use Rattle.iceoryx2_session.proofs.OwnedTickets.{table_owns}
use Rattle.iceoryx2_session.proofs.Promised.{calls_as_promised}
use Rattle.iceoryx2_session.proofs.Shown.{goes_at_table, goes_seen}
use Rattle.iceoryx2_session.proofs.session.Session.apply.Goals as goal

pub returns-clause-own : goal.returns-clause-own
returns-clause-own g c = goes_seen (shown_world g.S.TableStorage.shown) g.S.WorldStorage.world g.met.S.TableStorage.same_world c.apply_shared.ensures.own

pub returns-clause-goes : goal.returns-clause-goes
returns-clause-goes g c = goes_at_table g.S.Storage.step g.S.TableStorage.shown g.met.S.TableStorage.accesses (returns-clause-own g c)

pub returns-clause-stands : goal.returns-clause-stands
returns-clause-stands g c = λ agrees old. let after = applies_standing (returns-clause-goes g c) agrees old in (after.0.1, after.0.2, after.1)

pub returns-clause-promised : goal.returns-clause-promised
returns-clause-promised g c = calls_as_promised everyone IsTableAccess (λ table. table.world) (of_table everyone) (returns-clause-goes g c)

pub returns-clause-owns : goal.returns-clause-owns
returns-clause-owns g c = λ agrees old owned. table_owns (returns-clause-goes g c) agrees owned

pub returns-clause-quiet : goal.returns-clause-quiet
returns-clause-quiet g c = λ q quiet old. moved q quiet old (returns-clause-goes g c)

pub returns-clause-unchanged : goal.returns-clause-unchanged
returns-clause-unchanged g c = λ q quiet old still. unchanged_by q quiet old (returns-clause-goes g c) still
