-- The tickets of own nodes are those of a session's slots, over any world that agrees.
use Rattle.std.proofs.Common.{◌≡◌, ◌≢◌, ℕ, Bool, true, List, Option, Some, None, Result, Ok, Err, inl, inr, refl, sym, ap, subst, ◌∙◌}
use Rattle.std.specs.Prelude.{slice_set}
use Rattle.std.specs.FinMap as map
use Rattle.std.proofs.lemmas.Cmp.{nat_cmp_total}
use Rattle.std.proofs.lemmas.Map.Lookups.{exact_unsigned}
use Rattle.iceoryx2_world.specs.declared.world.Ticket.{Ticket}
use Rattle.iceoryx2_world.specs.World.{World, ticket_of}
use Rattle.iceoryx2_world.specs.Agreement.{Agrees}
use Rattle.iceoryx2_world.specs.Interference.{everyone, IsAccessUnder, IsFallibleUnder, SameTickets}
use Rattle.iceoryx2_world.specs.Standing.{Stands, ticket_for}
use Rattle.iceoryx2_world.specs.Tables.{IsTableAccess}
use Rattle.iceoryx2_world.proofs.agreement.Accesses.{unrefused}
use Rattle.iceoryx2_world.proofs.agreement.Maps.{set_cases}
use Rattle.iceoryx2_access.specs.Letter.{Letter}
use Rattle.iceoryx2_access.specs.Registered.{Registered}
use Rattle.iceoryx2_rounds.specs.Answers.{map_err}
use Rattle.iceoryx2_call_laws.specs.Tickets.{tickets_after}
use Rattle.iceoryx2_call_laws.proofs.calls.AnyLeft.{adds_its_ticket}
use Rattle.iceoryx2_call_laws.proofs.calls.Tickets.{takes_its_ticket, removes_ticket}
use Rattle.iceoryx2_call_laws.proofs.calls.Headline.{of_table}
use Rattle.iceoryx2_errors.specs.declared.error.CloseError.TheVariants.{NotHere}
use Rattle.iceoryx2_builder.specs.declared.command.Command.{Command}
use Rattle.iceoryx2_errors.specs.declared.refusal.Refusal.{Refusal}
use Rattle.iceoryx2_builder.specs.declared.command.Reply.{Reply}
use Rattle.iceoryx2_session.specs.PatternCalls.{PatternCall}
use Rattle.iceoryx2_session.specs.Patterns.{builder_call}
use Rattle.iceoryx2_session.specs.Sessions.{SessionOver, SessionState, BuildsBy, LetsGoBy, HandsBackBy, ClosesFactoryBy, AppliesBy, Applies, AppliesInWorld}
use Rattle.iceoryx2_session.specs.Sessions as goes
use Rattle.iceoryx2_session.specs.StandingSlots.{HasTicket, OwnsTicketsUnder, OwnsTickets, OwnsTicketsInWorld}
use Rattle.iceoryx2_session.proofs.SlotLists.{set_here, set_there, not_free, same_slot}
use Rattle.iceoryx2_session.proofs.StandingSlots.{close_is_ok, worlds}

-- the tickets after what a session sees of a call's own answer
seen_tickets : {E : Type 0} {own : ℕ → Bool} (w v : World) (carry : E → Refusal) (a : Result Registered E) (answer : Result Registered Refusal)
    → answer ≡ map_err carry a → SameTickets own (tickets_after w.tickets a) v.tickets → SameTickets own (tickets_after w.tickets answer) v.tickets
seen_tickets {own = own} w v carry (Ok f) answer e same = subst (λ (x : Result Registered Refusal). SameTickets own (tickets_after w.tickets x) v.tickets) (sym e) same
seen_tickets {own = own} w v carry (Err r) answer e same = subst (λ (x : Result Registered Refusal). SameTickets own (tickets_after w.tickets x) v.tickets) (sym e) same

module _ (own : ℕ → Bool) (w v : World) (slots : List (Option Registered)) (owned : OwnsTicketsUnder own w slots) where
  -- a ticket after one was put in is that one, or is that of a slot's factory
  put_owns : (f : Registered) (k : ℕ) → SameTickets own (map.insert w.tickets f.ticket (ticket_for f)) v.tickets
      → HasTicket (slice_set slots k (Some f)) f.ticket → ((t : ℕ) → HasTicket slots t → HasTicket (slice_set slots k (Some f)) t)
      → OwnsTicketsUnder own v (slice_set slots k (Some f))
  put_owns f k same new others t x mine at = elim (set_cases nat_cmp_total exact_unsigned w.tickets f.ticket (Some (ticket_for f)) t) [
    | inl e ↦ subst (λ u. HasTicket (slice_set slots k (Some f)) u) (sym e.0) new
    | inr e ↦ others t (owned t x mine (sym e.1 ∙ same.no_other t x mine at))
  ]

  -- a ticket after one was taken out is another one, and that of a slot's factory
  pub take_owns : (k : ℕ) → SameTickets own (map.remove w.tickets k) v.tickets
      → (t : ℕ) (x : Ticket) → own x.node ≡ true → ticket_of v t ≡ Some x → (t ≢ k) × HasTicket slots t
  take_owns k same t x mine at =
      let left = same.no_other t x mine at in
      elim (set_cases nat_cmp_total exact_unsigned w.tickets k None t) [
        | inl e ↦ let gone = sym left ∙ e.1 in absurd cc
        | inr e ↦ (e.0, owned t x mine (sym e.1 ∙ left))
      ]

-- over a storage whose accesses are accesses of its world under interference, of which none is refused
module _ (own : ℕ → Bool) {S : Type 0} (step : S → Letter → S → Type 0) (world : S → World)
    (of_world : (s t : S) (l : Letter) → step s l t → IsAccessUnder own (world s) l (world t)) where
  pub may_refuse : (s t : S) (l : Letter) → step s l t → IsFallibleUnder own (world s) l (world t)
  may_refuse s t l a = unrefused (of_world s t l a)

  -- the close of a standing factory takes its ticket out
  pub taken_by_close : (f : Registered) {s t : S} → own f.node ≡ true → Agrees (world s) → Stands (world s) f → ClosesFactoryBy step s f t
      → SameTickets own (map.remove (world s).tickets f.ticket) (world t).tickets
  taken_by_close f {s = s} {t = t} mine agrees stands is =
      let closed = close_is_ok own step world of_world f mine agrees stands is in
      takes_its_ticket own f closed.word (Ok tt) (world s) (world t) closed.is_word (worlds own step world may_refuse closed.run) agrees

-- and where any of them may be refused
module _ (own : ℕ → Bool) {S : Type 0} (step : S → Letter → S → Type 0) (world : S → World)
    (of_world : (s t : S) (l : Letter) → step s l t → IsFallibleUnder own (world s) l (world t)) where
  -- a close takes its factory's ticket out,
  taken_out : (f : Registered) {s t : S} → Agrees (world s) → LetsGoBy step s f t
      → SameTickets own (map.remove (world s).tickets f.ticket) (world t).tickets
  taken_out f agrees is = removes_ticket f is.2.is_word is.1 (worlds own step world of_world is.2.run) agrees

  -- and none where it hands that back
  left_in : (f : Registered) {s t : S} → Agrees (world s) → HandsBackBy step s f t → SameTickets own (world s).tickets (world t).tickets
  left_in f {s = s} {t = t} agrees is =
      takes_its_ticket own f is.word (Err (NotHere f)) (world s) (world t) is.is_word (worlds own step world of_world is.run) agrees

  after_call : (b : PatternCall) (answer : Result Registered Refusal) {s t : S} → Agrees (world s) → BuildsBy step b s answer t
      → SameTickets own (tickets_after (world s).tickets answer) (world t).tickets
  after_call b answer {s = s} {t = t} agrees is =
      seen_tickets (world s) (world t) b.refusal_of is.0 answer is.1
      (adds_its_ticket own b.call is.2.word is.0 (world s) (world t) is.2.is_word (worlds own step world of_world is.2.run) agrees)

  pub owns_after : {s : SessionOver S} {c : Command} {a : Reply} {n : SessionOver S} → AppliesBy step world s c a n → Agrees (world s.table)
      → OwnsTicketsUnder own (world s.table) s.slots → OwnsTicketsUnder own (world n.table) n.slots
  owns_after (goes.call_past le) agrees owned = owned
  owns_after (goes.call_taken t) agrees owned = owned
  owns_after {s = s} (goes.called {call = call} f {t = t} free is) agrees owned =
      let k = call.slot in
      put_owns own (world s.table) (world t) s.slots owned f k (after_call (builder_call s.config call) (Ok f) agrees is)
      (record { slot = k; factory = f; holds = set_here s.slots k (Some f) None free; ticket = refl })
      (λ t o. record {
        slot = o.slot;
        factory = o.factory;
        holds = set_there s.slots k o.slot (Some f) (not_free s.slots k o.slot o.factory free o.holds) ∙ o.holds;
        ticket = o.ticket;
      })
  owns_after {s = s} (goes.refused {call = call} {e = e} free is) agrees owned = λ t x mine at.
      owned t x mine ((after_call (builder_call s.config call) (Err e) agrees is).no_other t x mine at)
  owns_after (goes.close_past le) agrees owned = owned
  owns_after (goes.close_empty free) agrees owned = owned
  owns_after {s = s} (goes.closed {slot = k} f {t = u} at is) agrees owned = λ t x mine has.
      let left = take_owns own (world s.table) (world u) s.slots owned f.ticket (taken_out f agrees is) t x mine has in
      let o = left.1 in
      let elsewhere : (o.slot ≡ k) → ⊥ = λ same. left.0 (sym o.ticket ∙ ap (λ u. u.ticket) (same_slot s.slots o.slot k o.factory f o.holds at same)) in
      record { slot = o.slot; factory = o.factory; holds = set_there s.slots k o.slot None elsewhere ∙ o.holds; ticket = o.ticket }
  owns_after (goes.not_closed f at is) agrees owned = λ t x mine has. owned t x mine ((left_in f agrees is).no_other t x mine has)
  owns_after (goes.listed lists) agrees owned = owned
  owns_after goes.not_listed agrees owned = owned

-- over a table, at which every node is one's own
pub table_owns : {s n : SessionState} {c : Command} {a : Reply} → Applies s c a n → Agrees s.table.world → OwnsTickets s → OwnsTickets n
table_owns goes agrees owned = owns_after everyone IsTableAccess (λ table. table.world) (of_table everyone) goes agrees owned

-- over a world
pub owns_in_world : {own : ℕ → Bool} {s n : SessionOver World} {c : Command} {a : Reply} → AppliesInWorld own s c a n → Agrees s.table
    → OwnsTicketsInWorld own s → OwnsTicketsInWorld own n
owns_in_world {own = own} goes agrees owned = owns_after own (IsFallibleUnder own) (λ w. w) (λ w v l a. a) goes agrees owned
