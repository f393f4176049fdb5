use Rattle.std.proofs.Common.{◌≡◌, Result, Ok, Err, sym, subst}
use Rattle.std.specs.Prelude.{IfOk, OnErr}
use Rattle.iceoryx2_world.specs.Agreement.{Agrees}
use Rattle.iceoryx2_session.specs.Sessions.{shown_session, shown_world}
use Rattle.iceoryx2_session.specs.SessionStates.{own_state}
use Rattle.iceoryx2_session.specs.StandingSlots.{OwnsTickets, SlotsStand}
use Rattle.iceoryx2_session.proofs.CommandLists.{all_stand, all_moved, all_own, all_unchanged}
use Rattle.iceoryx2_session.proofs.Shown.{all_at_table, all_seen}
use Rattle.iceoryx2_session.proofs.session.Session.run.Goals as goal

-- what follows where the replies are there
if_ok : {A E : Type 0} {P Q : A → Type 0} (answer : Result A E) → ((x : A) → P x → Q x) → IfOk answer P → IfOk answer Q
if_ok (Ok x) follows so = follows x so
if_ok (Err e) follows so = tt

-- what is so where the replies are there, and where nothing was carried out
either_way : {A E S : Type 0} (P : S → Type 0) (answer : Result A E) (old new : S) → OnErr answer (new ≡ old) → IfOk answer (λ x. P new) → P old → P new
either_way P (Ok x) old new same so was = so
either_way P (Err e) old new same so was = subst P (sym same) was

pub returns-clause-own : goal.returns-clause-own
returns-clause-own g c =
    if_ok c.run_shared.result (λ replies goes. all_seen (shown_world g.S.TableStorage.shown) g.S.WorldStorage.world g.met.S.TableStorage.same_world goes) c.run_shared.ensures.own

pub returns-clause-goes : goal.returns-clause-goes
returns-clause-goes g c =
    if_ok c.run_shared.result (λ replies goes. all_at_table g.S.Storage.step g.S.TableStorage.shown g.met.S.TableStorage.accesses goes) (returns-clause-own g c)

pub returns-clause-stands : goal.returns-clause-stands
returns-clause-stands g c = λ agrees old.
    either_way (λ s. Agrees (g.S.TableStorage.shown s.table).world × SlotsStand (shown_session g.S.TableStorage.shown s)) c.run_shared.result
    (own_state c.args.self.now) (own_state c.run_shared.new.self) c.run_shared.ensures.refused
    (if_ok c.run_shared.result (λ replies goes. (all_stand goes agrees old).1) (returns-clause-goes g c)) (agrees, old)

pub returns-clause-between : goal.returns-clause-between
returns-clause-between g c = λ agrees old. if_ok c.run_shared.result (λ replies goes. (all_stand goes agrees old).0) (returns-clause-goes g c)

pub returns-clause-owns : goal.returns-clause-owns
returns-clause-owns g c = λ agrees old owned.
    either_way (λ s. OwnsTickets (shown_session g.S.TableStorage.shown s)) c.run_shared.result
    (own_state c.args.self.now) (own_state c.run_shared.new.self) c.run_shared.ensures.refused
    (if_ok c.run_shared.result (λ replies goes. all_own goes agrees old owned) (returns-clause-between g c agrees old)) owned

pub returns-clause-quiet : goal.returns-clause-quiet
returns-clause-quiet g c = λ q quiet old. if_ok c.run_shared.result (λ replies goes. all_moved q quiet old goes) (returns-clause-goes g c)

pub returns-clause-unchanged : goal.returns-clause-unchanged
returns-clause-unchanged g c = λ q quiet old. if_ok c.run_shared.result (λ replies goes still. all_unchanged q quiet old goes still) (returns-clause-goes g c)
