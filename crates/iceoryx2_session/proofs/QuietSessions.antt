-- One command of a session over a table that nobody else uses.
use Rattle.std.proofs.Common.{◌≡◌, ℕ, [], Some, None, Result, Ok, Err, refl, sym, ap, subst, ◌∙◌}
use Rattle.std.specs.FinMap as map
use Rattle.std.specs.Ordering.{nat_cmp}
use Rattle.iceoryx2_world.specs.declared.world.Ticket.{Ticket}
use Rattle.iceoryx2_world.specs.World.{World, ticket_of, empty_world}
use Rattle.iceoryx2_world.specs.Agreement.{Agrees}
use Rattle.iceoryx2_world.specs.Tables.{TableState}
use Rattle.iceoryx2_world.proofs.Waiting.{idle_run}
use Rattle.iceoryx2_world.proofs.agreement.Empty.{empty_agrees}
use Rattle.iceoryx2_access.specs.Registered.{Registered}
use Rattle.iceoryx2_call_laws.specs.Quiet.{Quiet, Shows, no_service}
use Rattle.iceoryx2_call_laws.specs.QuietLaws.{HoldsTheSame}
use Rattle.iceoryx2_call_laws.proofs.quiet.Listing.{lists_the_machine}
use Rattle.iceoryx2_call_laws.proofs.quiet.Calls.{close_follows, empty_shows}
use Rattle.iceoryx2_builder.specs.declared.command.Command.{Command}
use Rattle.iceoryx2_errors.specs.declared.refusal.Refusal.{Refusal}
use Rattle.iceoryx2_builder.specs.declared.command.Reply.{Reply}
use Rattle.iceoryx2_session.specs.PatternCalls.{PatternCall}
use Rattle.iceoryx2_session.specs.Patterns.{builder_call}
use Rattle.iceoryx2_session.specs.Sessions.{SessionState, Builds, Applies}
use Rattle.iceoryx2_session.specs.Sessions as goes
use Rattle.iceoryx2_session.specs.StandingSlots.{SlotsStand, OwnsTickets}
use Rattle.iceoryx2_session.specs.QuietSessions.{IsQuiet, AnswersCall, IsMoved, RepliesNoChange, IsUnchanged}
use Rattle.iceoryx2_session.specs.QuietSessions as moves
use Rattle.iceoryx2_rounds.specs.LawfulCalls.{IsLawfulCall}
use Rattle.iceoryx2_call_laws.specs.QuietWays.{Answers}
use Rattle.iceoryx2_call_laws.proofs.quiet.Ways.{call_follows, refused_call}
use Rattle.iceoryx2_rounds.specs.Answers.{map_err}
use Rattle.iceoryx2_session.proofs.Patterns.{call_is_lawful}
use Rattle.iceoryx2_session.proofs.StandingSlots.{comes_not_back}

-- what a builder call makes of the machine
record IsBuilt (q : Quiet) (b : PatternCall) (w : World) (answer : Result Registered Refusal) (v : World) : Type 0 where
  state : Quiet
  call : AnswersCall q b answer state
  shows : Shows v state
  agrees : Agrees v

built : (b : PatternCall) (answer : Result Registered Refusal) (s t : TableState) (q : Quiet)
    → IsLawfulCall b.call → Shows s.world q → Agrees s.world → s.waiting ≡ [] → Builds b s answer t → IsBuilt q b s.world answer t.world
built b answer s t q lawful shows agrees waiting is =
    let c = call_follows b.call b.call.way lawful s.world t.world q is.2.word is.0 (record { shows = shows; agrees = agrees; run = (idle_run waiting is.2.run).0 }) is.2.is_word in
    record { state = c.state; call = (is.0, is.1, c.call); shows = c.shows; agrees = c.agrees }

-- ---- commands

-- nothing waits after a builder call, where nothing waited
none_waits : (b : PatternCall) (answer : Result Registered Refusal) (s t : TableState)
    → s.waiting ≡ [] → Builds b s answer t → t.waiting ≡ []
none_waits b answer s t waiting is = (idle_run waiting is.2.run).1.0

quiet_after : (n : SessionState) (q : Quiet) → Shows n.table.world q → Agrees n.table.world → n.table.waiting ≡ [] → IsQuiet n q
quiet_after n q shows agrees waiting = record { shows = shows; agrees = agrees; waiting = waiting }

pub moved : {s : SessionState} {c : Command} {a : Reply} {n : SessionState} (q : Quiet) → IsQuiet s q → SlotsStand s → Applies s c a n
    → IsMoved s q c a n
moved q old slots (goes.call_past le) = record { state = q; moves = moves.call_past le; quiet = old; configured = refl }
moved q old slots (goes.call_taken t) = record { state = q; moves = moves.call_taken t; quiet = old; configured = refl }
moved {s = s} q old slots (goes.called {call = call} f {t = t} free is) =
    let c = built (builder_call s.config call) (Ok f) s.table t q (call_is_lawful s.config call) old.shows old.agrees old.waiting is in
    record { state = c.state; moves = moves.called f free c.call; quiet = quiet_after _ c.state c.shows c.agrees (none_waits (builder_call s.config call) (Ok f) s.table t old.waiting is); configured = refl }
moved {s = s} q old slots (goes.refused {call = call} {e = e} {t = t} free is) =
    let c = built (builder_call s.config call) (Err e) s.table t q (call_is_lawful s.config call) old.shows old.agrees old.waiting is in
    record { state = c.state; moves = moves.refused free c.call; quiet = quiet_after _ c.state c.shows c.agrees (none_waits (builder_call s.config call) (Err e) s.table t old.waiting is); configured = refl }
moved q old slots (goes.close_past le) = record { state = q; moves = moves.close_past le; quiet = old; configured = refl }
moved q old slots (goes.close_empty free) = record { state = q; moves = moves.close_empty free; quiet = old; configured = refl }
moved {s = s} q old slots (goes.closed {slot = k} f {t = t} at is) =
    let c = close_follows f s.table.world t.world q is.2.word is.0 (record { shows = old.shows; agrees = old.agrees; run = (idle_run old.waiting is.2.run).0 }) is.2.is_word (slots.stand k f at).ticket in
    record { state = c.1.state; moves = moves.closed f at c.1.call; quiet = quiet_after _ c.1.state c.1.shows c.1.agrees (idle_run old.waiting is.2.run).1.0; configured = refl }
moved {s = s} q old slots (goes.not_closed {slot = k} f {t = t} at is) = absurd (comes_not_back s k f t old.agrees slots at is)
moved {s = s} q old slots (goes.listed {entries = entries} lists) =
    record { state = q; moves = moves.listed (lists_the_machine s.table.world q entries.items old.shows lists); quiet = old; configured = refl }
moved q old slots goes.not_listed = record { state = q; moves = moves.not_listed; quiet = old; configured = refl }

-- ---- a command that opens and closes nothing

not_ok : (e : Refusal) (f : Registered) → let answer : Result Registered Refusal = Err e in answer ≡ Ok f → ⊥
not_ok e f is = absurd cc

refused_answer : {E : Type 0} (carry : E → Refusal) (e : Refusal) (a : Result Registered E) (P : Type 0) → Err e ≡ map_err carry a
    → ((x : E) → a ≡ Err x → P) → P
refused_answer carry e (Ok f) P is then = absurd (not_ok e f is)
refused_answer carry e (Err x) P is then = then x refl

-- a refused call leaves what there was
refusal_keeps : (b : PatternCall) (e : Refusal) (w v : World) (q p : Quiet)
    → Shows w q → Shows v p → AnswersCall q b (Err e) p → HoldsTheSame w v
refusal_keeps b e w v q p s t is =
    refused_answer b.refusal_of e is.0 (HoldsTheSame w v) is.1 (λ x same. refused_call b.call w v q p x s t (subst (λ a. Answers b.call b.call.way q a p) same is.2))

pub itself : (s : SessionState) → IsUnchanged s s
itself s = record { slots = refl; services = record { rows = λ h. refl; segments = λ h. refl; tags = λ i h. refl; counts = λ i h. refl } }

pub unchanged_by : {s : SessionState} {c : Command} {a : Reply} {n : SessionState} (q : Quiet) → IsQuiet s q → SlotsStand s → Applies s c a n → RepliesNoChange a
    → IsUnchanged s n
unchanged_by {s = s} q old slots (goes.call_past le) still = itself s
unchanged_by {s = s} q old slots (goes.call_taken t) still = itself s
unchanged_by q old slots (goes.called f free is) still = absurd still
unchanged_by {s = s} q old slots (goes.refused {call = call} {e = e} {t = t} free is) still =
    let b = builder_call s.config call in
    let c = built b (Err e) s.table t q (call_is_lawful s.config call) old.shows old.agrees old.waiting is in
    record { slots = refl; services = refusal_keeps b e s.table.world t.world q c.state old.shows c.shows c.call }
unchanged_by {s = s} q old slots (goes.close_past le) still = itself s
unchanged_by {s = s} q old slots (goes.close_empty free) still = itself s
unchanged_by q old slots (goes.closed f at is) still = absurd still
unchanged_by {s = s} q old slots (goes.not_closed {slot = k} f {t = t} at is) still = absurd (comes_not_back s k f t old.agrees slots at is)
unchanged_by {s = s} q old slots (goes.listed lists) still = itself s
unchanged_by {s = s} q old slots goes.not_listed still = itself s

-- ---- a session over a new table

no_ticket : (t : ℕ) (x : Ticket) → Some x ≡ None → ⊥
no_ticket t x e = absurd cc

pub is_fresh : (s : SessionState) (n : ℕ) → s.table.world ≡ empty_world n → s.table.waiting ≡ [] → IsQuiet s (no_service n) × OwnsTickets s
is_fresh s n e waiting = (
  record {
    shows = subst (λ w. Shows w (no_service n)) (sym e) (empty_shows n);
    agrees = subst (λ w. Agrees w) (sym e) (empty_agrees n);
    waiting = waiting;
  },
  λ t x mine at. absurd (no_ticket t x (sym at ∙ ap (λ w. ticket_of w t) e ∙ map.get-empty nat_cmp t)),
)
