-- A session that is finished: its slots are closed one after the other.
use Rattle.std.proofs.Common.{◌≡◌, ℕ, zero, suc, Bool, List, [], ◌∷◌, Option, Some, None, ◌⊎◌, inl, inr, refl, sym, ap, subst, ◌∙◌, arith}
use Rattle.std.specs.FinMap as map
use Rattle.iceoryx2_description.specs.declared.config.Config.{Config}
use Rattle.iceoryx2_description.specs.declared.description.ServiceHash.{ServiceHash}
use Rattle.iceoryx2_world.specs.Tables.{TableState, IsTableAccess}
use Rattle.iceoryx2_world.proofs.Waiting.{idle_run}
use Rattle.iceoryx2_world.specs.Agreement.{Agrees}
use Rattle.iceoryx2_world.specs.Interference.{everyone, IsAccessUnder, SameTickets}
use Rattle.iceoryx2_world.specs.World.{World, ticket_of}
use Rattle.iceoryx2_access.specs.Letter.{Letter}
use Rattle.iceoryx2_access.specs.Run.{done, next}
use Rattle.iceoryx2_access.specs.Registered.{Registered}
use Rattle.iceoryx2_world.specs.Standing.{Stands}
use Rattle.iceoryx2_call_laws.specs.Quiet.{Quiet, Shows}
use Rattle.iceoryx2_call_laws.specs.QuietLaws.{HasNothingAt}
use Rattle.iceoryx2_call_laws.specs.Tickets.{HasNoTicket}
use Rattle.iceoryx2_call_laws.proofs.quiet.Calls.{close_follows}
use Rattle.iceoryx2_call_laws.proofs.quiet.Same.{all_gone}
use Rattle.iceoryx2_session.specs.Slots.{HoldsAt}
use Rattle.iceoryx2_session.specs.Sessions.{SessionState, ClosesFactoryBy, ClosesSlotsBy, AreClosedBy, ClosesSlots, AreClosed}
use Rattle.iceoryx2_session.specs.StandingSlots.{SlotsStandUnder, OwnsTicketsUnder, SlotsStand, HasTicket, OwnsTickets}
use Rattle.iceoryx2_session.specs.QuietSessions.{IsQuiet, IsFinished}
use Rattle.iceoryx2_session.proofs.OwnedTickets.{may_refuse, take_owns, taken_by_close}
use Rattle.iceoryx2_session.proofs.StandingSlots.{agrees_after, kept_by_close, close_is_ok, unrefused_table}

-- ---- the slots after the first

past : {own : ℕ → Bool} {w v : World} {o : Option Registered} {slots : List (Option Registered)} → SlotsStandUnder own w (o ∷ slots)
    → ((k : ℕ) (f : Registered) → HoldsAt slots k f → Stands v f) → SlotsStandUnder own v slots
past old stand = record {
  of_own = λ k f at. old.of_own (suc k) f at;
  stand = stand;
  apart = λ i j a b at_i at_j e. omega (arith, old.apart (suc i) (suc j) a b at_i at_j e);
}

none_if : {X : Type 0} (o : Option X) → ((x : X) → o ≡ Some x → ⊥) → o ≡ None
none_if None never = refl
none_if (Some x) never = absurd (never x refl)

no_owner : (t : ℕ) → HasTicket [] t → ⊥
no_owner t o = let h = o.holds in absurd cc

tail_at : (o : Option Registered) (slots : List (Option Registered)) (t k : ℕ) (f : Registered) → HoldsAt (o ∷ slots) k f → f.ticket ≡ t
    → (o ≡ Some f) ⊎ HasTicket slots t
tail_at o slots t zero f at e = inl (cc)
tail_at o slots t (suc k) f at e = inr (record { slot = k; factory = f; holds = at; ticket = e })

same_ticket : (f g : Registered) → let place : Option Registered = Some f in place ≡ Some g → g.ticket ≡ f.ticket
same_ticket f g e = let is : f ≡ g = cc in sym (ap (λ x. x.ticket) is)

past_free_owns : (own : ℕ → Bool) (w : World) (slots : List (Option Registered)) → OwnsTicketsUnder own w (None ∷ slots) → OwnsTicketsUnder own w slots
past_free_owns own w slots owned t x mine e =
    let o = owned t x mine e in
    elim (tail_at None slots t o.slot o.factory o.holds o.ticket) [ inl i ↦ absurd cc | inr i ↦ i ]

past_taken_owns : (own : ℕ → Bool) (w v : World) (f : Registered) (slots : List (Option Registered)) → SameTickets own (map.remove w.tickets f.ticket) v.tickets
    → OwnsTicketsUnder own w (Some f ∷ slots) → OwnsTicketsUnder own v slots
past_taken_owns own w v f slots same owned t x mine e =
    let left = take_owns own w v (Some f ∷ slots) owned f.ticket same t x mine e in
    let o = left.1 in
    elim (tail_at (Some f) slots t o.slot o.factory o.holds o.ticket) [
      | inl j ↦ absurd (left.0 (sym o.ticket ∙ same_ticket f o.factory j))
      | inr j ↦ j
    ]

-- ---- over a storage whose accesses are accesses of its world under interference, of which none is refused

module _ (own : ℕ → Bool) {S : Type 0} (step : S → Letter → S → Type 0) (world : S → World)
    (of_world : (s t : S) (l : Letter) → step s l t → IsAccessUnder own (world s) l (world t)) where
  past_free : {u v : S} {slots : List (Option Registered)} → v ≡ u → SlotsStandUnder own (world u) (None ∷ slots) → SlotsStandUnder own (world v) slots
  past_free is old = past old (λ k f at. subst (λ s. Stands (world s) f) (sym is) (old.stand (suc k) f at))

  past_taken : {u v : S} (f : Registered) {slots : List (Option Registered)} → Agrees (world u) → ClosesFactoryBy step u f v
      → SlotsStandUnder own (world u) (Some f ∷ slots) → SlotsStandUnder own (world v) slots
  past_taken f agrees is old = past old (λ k g at.
      kept_by_close own step world (may_refuse own step world of_world) f agrees is g (old.of_own (suc k) g at)
      (λ same. absurd (omega (arith, old.apart (suc k) 0 g f at refl same))) (old.stand (suc k) g at))

  pub all_closed : {u w : S} {slots : List (Option Registered)} → Agrees (world u) → SlotsStandUnder own (world u) slots
      → ClosesSlotsBy step u slots w → Agrees (world w) × AreClosedBy step u slots w
  all_closed agrees old done = (agrees, done)
  all_closed agrees old (next {letter = None} is rest) =
      let more = all_closed (subst (λ s. Agrees (world s)) (sym is) agrees) (past_free is old) rest in
      (more.0, next is more.1)
  all_closed agrees old (next {letter = Some f} is rest) =
      let more = all_closed (agrees_after own step world (may_refuse own step world of_world) is.1.run agrees) (past_taken f agrees is old) rest in
      (more.0, next (close_is_ok own step world of_world f (old.of_own 0 f refl) agrees (old.stand 0 f refl) is) more.1)

  -- where the own nodes' tickets are those of the slots
  pub all_taken_out : {u w : S} {slots : List (Option Registered)} → Agrees (world u) → SlotsStandUnder own (world u) slots
      → OwnsTicketsUnder own (world u) slots → ClosesSlotsBy step u slots w → (t : ℕ) → HasNoTicket own (world w) t
  all_taken_out agrees old owned done = λ t x mine e. no_owner t (owned t x mine e)
  all_taken_out agrees old owned (next {old = u} {letter = None} {word = slots} is rest) =
      all_taken_out (subst (λ s. Agrees (world s)) (sym is) agrees) (past_free is old)
      (subst (λ s. OwnsTicketsUnder own (world s) slots) (sym is) (past_free_owns own (world u) slots owned)) rest
  all_taken_out agrees old owned (next {old = u} {mid = v} {letter = Some f} {word = slots} is rest) =
      all_taken_out (agrees_after own step world (may_refuse own step world of_world) is.1.run agrees) (past_taken f agrees is old)
      (past_taken_owns own (world u) (world v) f slots (taken_by_close own step world of_world f (old.of_own 0 f refl) agrees (old.stand 0 f refl) is) owned) rest

-- ---- over a table, at which every node is one's own

abbrev world_of : TableState → World
world_of table = table.world

pub table_closed : {u w : TableState} {slots : List (Option Registered)} → Agrees u.world → SlotsStandUnder everyone u.world slots → ClosesSlots u slots w
    → Agrees w.world × AreClosed u slots w
table_closed agrees old closes = all_closed everyone IsTableAccess world_of unrefused_table agrees old closes

pub table_taken_out : {u w : TableState} {slots : List (Option Registered)} → Agrees u.world → SlotsStandUnder everyone u.world slots
    → OwnsTicketsUnder everyone u.world slots → ClosesSlots u slots w → (t : ℕ) → ticket_of w.world t ≡ None
table_taken_out {w = w} agrees old owned closes = λ t. none_if (ticket_of w.world t) (λ x. all_taken_out everyone IsTableAccess world_of unrefused_table agrees old owned closes t x refl)

-- ---- over a table that nobody else uses

abbrev state : Config → TableState → List (Option Registered) → SessionState
state config s slots = record { config = config; table = s; slots = slots }

pub all_left : (config : Config) (q : Quiet) {u w : TableState} {slots : List (Option Registered)} → IsQuiet (state config u slots) q
    → SlotsStand (state config u slots) → ClosesSlots u slots w → IsFinished q slots w
all_left config q quiet old done = record { state = q; moves = done; shows = quiet.shows; agrees = quiet.agrees; waiting = quiet.waiting }
all_left config q quiet old (next {old = u} {mid = v} {letter = None} {word = slots} is rest) =
    let after : IsQuiet (state config v slots) q = record { shows = subst (λ (s : TableState). Shows s.world q) (sym is) quiet.shows; agrees = subst (λ (s : TableState). Agrees s.world) (sym is) quiet.agrees; waiting = subst (λ (s : TableState). s.waiting ≡ []) (sym is) quiet.waiting } in
    let more = all_left config q after (past_free everyone IsTableAccess world_of unrefused_table is old) rest in
    record { state = more.state; moves = next refl more.moves; shows = more.shows; agrees = more.agrees; waiting = more.waiting }
all_left config q quiet old (next {old = u} {mid = v} {letter = Some f} {word = slots} is rest) =
    let c = close_follows f u.world v.world q is.1.word is.0 (record { shows = quiet.shows; agrees = quiet.agrees; run = (idle_run quiet.waiting is.1.run).0 }) is.1.is_word (old.stand 0 f refl).ticket in
    let after : IsQuiet (state config v slots) c.1.state = record { shows = c.1.shows; agrees = c.1.agrees; waiting = (idle_run quiet.waiting is.1.run).1.0 } in
    let more = all_left config c.1.state after (past_taken everyone IsTableAccess world_of unrefused_table f quiet.agrees is old) rest in
    record { state = more.state; moves = next c.1.call more.moves; shows = more.shows; agrees = more.agrees; waiting = more.waiting }

pub emptied : (config : Config) (q : Quiet) {u w : TableState} {slots : List (Option Registered)} → IsQuiet (state config u slots) q
    → SlotsStand (state config u slots) → OwnsTickets (state config u slots) → ClosesSlots u slots w → (h : ServiceHash) → HasNothingAt w.world h
emptied config q {w = w} quiet old owned closes =
    let end = all_left config q quiet old closes in
    (all_gone w.world end.state end.shows end.agrees (table_taken_out quiet.agrees old owned closes)).1
