-- The factories of a session's slots stand, over any world that agrees.
use Rattle.std.proofs.Common.{◌≡◌, ◌≢◌, ℕ, Bool, true, List, [], Option, Some, None, Result, Ok, Err, inl, inr, replicate, refl, sym, ap, subst, ◌∙◌, arith}
use Rattle.std.specs.Prelude.{slice_set, IfOk}
use Rattle.iceoryx2_world.specs.World.{World}
use Rattle.iceoryx2_world.specs.Agreement.{Agrees}
use Rattle.iceoryx2_world.specs.Interference.{everyone, KeepsOwn, IsAccessUnder, IsFallibleUnder}
use Rattle.iceoryx2_access.specs.Letter.{Letter}
use Rattle.iceoryx2_access.specs.Run.{Run, Each, done, next}
use Rattle.iceoryx2_access.specs.Registered.{Registered}
use Rattle.iceoryx2_world.specs.Tables.{TableState, IsTableAccess}
use Rattle.iceoryx2_world.specs.Standing.{Stands, Spares, ticket_for}
use Rattle.iceoryx2_access.proofs.Run.{run_map, run_keeps as keeps_all}
use Rattle.iceoryx2_world.proofs.Waiting.{table_access}
use Rattle.iceoryx2_world.proofs.agreement.Accesses.{run_keeps}
use Rattle.iceoryx2_world.proofs.agreement.Interference.{among_others}
use Rattle.iceoryx2_world.proofs.agreement.Stands.{stands_by_ticket}
use Rattle.iceoryx2_call_laws.specs.Calls.{Throughout}
use Rattle.iceoryx2_call_laws.specs.Headline.{IsOpen, IsGiven}
use Rattle.iceoryx2_call_laws.specs.Tickets.{CloseAnswer}
use Rattle.iceoryx2_call_laws.proofs.calls.Tickets.{no_refusal}
use Rattle.iceoryx2_call_laws.proofs.calls.Words.{close_spares, throughout}
use Rattle.iceoryx2_errors.specs.declared.error.CloseError.TheVariants.{NotHere}
use Rattle.iceoryx2_rounds.proofs.HandedBack.{removed_here}
use Rattle.iceoryx2_call_laws.proofs.calls.Closed.{closes_what_stands}
use Rattle.iceoryx2_call_laws.proofs.calls.Headline.{of_table}
use Rattle.iceoryx2_rounds.specs.Closes.{IsCloseWord, not_here, still_counted, left, last}
use Rattle.iceoryx2_builder.specs.declared.command.Command.{Command}
use Rattle.iceoryx2_builder.specs.declared.command.Command.TheVariants as command
use Rattle.iceoryx2_errors.specs.declared.refusal.Refusal.{Refusal}
use Rattle.iceoryx2_builder.specs.declared.command.Reply.{Reply}
use Rattle.iceoryx2_rounds.specs.Answers.{map_err}
use Rattle.iceoryx2_description.specs.declared.config.Config.{Config}
use Rattle.iceoryx2_session.specs.PatternCalls.{PatternCall}
use Rattle.iceoryx2_session.specs.Patterns.{builder_call}
use Rattle.iceoryx2_builder.specs.Commands.{slot_count}
use Rattle.iceoryx2_session.specs.Slots.{HoldsAt}
use Rattle.iceoryx2_session.specs.Sessions.{SessionOver, SessionState, BuildsBy, HandsBackBy, ClosesFactoryBy, ClosesPlaceBy, ClosesSlotsBy, AppliesBy, Applies, IsClosedPlaceBy}
use Rattle.iceoryx2_session.specs.Sessions.{ClosesSlotsInWorld, AppliesInWorld}
use Rattle.iceoryx2_session.specs.Sessions as goes
use Rattle.iceoryx2_session.specs.StandingSlots.{SlotsStandUnder, IsOfOwn, ClosesTakenBy, SlotsStand, AppliesStanding, OwnsTicketsUnder, SlotsStandInWorld, AppliesStandingInWorld}
use Rattle.iceoryx2_session.specs.Promised.{CallsAsPromisedInWorld}
use Rattle.iceoryx2_session.proofs.Promised.{promise, calls_as_promised}
use Rattle.iceoryx2_session.proofs.SlotLists.{same_factory, same_slot, no_factory, not_free, set_cases, none_held}

-- what is so throughout a word is so after it
at_end : {S : Type 0} {step : S → Letter → S → Type 0} (P : S → Type 0) {s t : S} {word : List Letter}
    → Throughout step P s word → Run step s word t → P t
at_end P so done = so
at_end P so (next {mid = u} s rest) = at_end P (so.1 u s) rest

-- what is so of a call's own answer is so of the factory that the session sees
seen : {E : Type 0} (P : Result Registered E → Type 0) (carry : E → Refusal) (f : Registered) (a : Result Registered E)
    → Ok f ≡ map_err carry a → P a → P (Ok f)
seen P carry f (Ok g) e so = let is : f ≡ g = cc in subst (λ (x : Registered). P (Ok x)) (sym is) so
seen P carry f (Err x) e so = absurd cc

-- no access of a close that hands its factory back releases a ticket
spares_each : {r : Registered} {word : List Letter} {answer : CloseAnswer} (g s : Registered) → answer ≡ Err (NotHere s) → IsCloseWord r word answer → Each (Spares g) word
spares_each g s e not_here = (tt, tt)
spares_each g s e still_counted = absurd (cc)
spares_each g s e (left tag) = absurd (removed_here s tag (Ok tt) (Ok tt) e)
spares_each g s e (last tag segment description) = absurd (removed_here s tag segment description e)

-- ---- slots

module _ {own : ℕ → Bool} {w v : World} {slots : List (Option Registered)} (old : SlotsStandUnder own w slots) where
  -- where nothing changes but the world
  stand_on : ((f : Registered) → own f.node ≡ true → Stands w f → Stands v f) → SlotsStandUnder own v slots
  stand_on kept = record { of_own = old.of_own; stand = λ k f at. kept f (old.of_own k f at) (old.stand k f at); apart = old.apart }

  put_stands : (k : ℕ) (f : Registered) → own f.node ≡ true → Stands v f → ((g : Registered) → Stands w g → g.ticket ≢ f.ticket)
      → ((g : Registered) → own g.node ≡ true → Stands w g → Stands v g) → SlotsStandUnder own v (slice_set slots k (Some f))
  put_stands k f mine stands new kept =
      let before : (j : ℕ) (g : Registered) → HoldsAt slots j g → g.ticket ≡ f.ticket → ⊥ = λ j g at same. new g (old.stand j g at) same in
      record {
        of_own = λ j g at. elim (set_cases slots k j (Some f) (Some g) at) [
          | inl e ↦ subst (λ (u : Registered). own u.node ≡ true) (same_factory f g (sym e.1)) mine
          | inr e ↦ old.of_own j g e.1
        ];
        stand = λ j g at. elim (set_cases slots k j (Some f) (Some g) at) [
          | inl e ↦ subst (λ u. Stands v u) (same_factory f g (sym e.1)) stands
          | inr e ↦ kept g (old.of_own j g e.1) (old.stand j g e.1)
        ];
        apart = λ i j a b at_i at_j same. elim (set_cases slots k i (Some f) (Some a) at_i) [
          | inl e ↦ elim (set_cases slots k j (Some f) (Some b) at_j) [
            | inl g ↦ e.0 ∙ sym g.0
            | inr g ↦ absurd (before j b g.1 (sym same ∙ ap (λ u. u.ticket) (same_factory a f e.1)))
          ]
          | inr e ↦ elim (set_cases slots k j (Some f) (Some b) at_j) [
            | inl g ↦ absurd (before i a e.1 (same ∙ ap (λ u. u.ticket) (same_factory b f g.1)))
            | inr g ↦ old.apart i j a b e.1 g.1 same
          ]
        ];
      }

  take_stands : (k : ℕ) (f : Registered) → HoldsAt slots k f → ((g : Registered) → own g.node ≡ true → g.ticket ≢ f.ticket → Stands w g → Stands v g)
      → SlotsStandUnder own v (slice_set slots k None)
  take_stands k f taken kept = record {
    of_own = λ j g at. elim (set_cases slots k j None (Some g) at) [
      | inl e ↦ absurd (no_factory g (sym e.1))
      | inr e ↦ old.of_own j g e.1
    ];
    stand = λ j g at. elim (set_cases slots k j None (Some g) at) [
      | inl e ↦ absurd (no_factory g (sym e.1))
      | inr e ↦ kept g (old.of_own j g e.1) (λ same. e.0 (old.apart j k g f e.1 taken same)) (old.stand j g e.1)
    ];
    apart = λ i j a b at_i at_j same. elim (set_cases slots k i None (Some a) at_i) [
      | inl e ↦ absurd (no_factory a (sym e.1))
      | inr e ↦ elim (set_cases slots k j None (Some b) at_j) [
        | inl g ↦ absurd (no_factory b (sym g.1))
        | inr g ↦ old.apart i j a b e.1 g.1 same
      ]
    ];
  }

-- and after one of them is let go of, the others
pub dropped_stand : {own : ℕ → Bool} {w : World} {slots : List (Option Registered)} → SlotsStandUnder own w slots → (k : ℕ) → SlotsStandUnder own w (slice_set slots k None)
dropped_stand {slots = slots} old k =
    let before : (j : ℕ) (f : Registered) → HoldsAt (slice_set slots k None) j f → HoldsAt slots j f = λ j f at. elim (set_cases slots k j None (Some f) at) [
      | inl e ↦ absurd (no_factory f (sym e.1))
      | inr e ↦ e.1
    ] in
    record {
      of_own = λ j f at. old.of_own j f (before j f at);
      stand = λ j f at. old.stand j f (before j f at);
      apart = λ i j f g at_i at_j same. old.apart i j f g (before i f at_i) (before j g at_j) same;
    }

pub none_stand : (own : ℕ → Bool) (w : World) (slots : List (Option Registered)) → slots ≡ replicate slot_count None → SlotsStandUnder own w slots
none_stand own w slots e =
    let nothing : (k : ℕ) (f : Registered) → HoldsAt slots k f → ⊥ = λ k f at. none_held slot_count k f (subst (λ (l : List (Option Registered)). HoldsAt l k f) e at) in
    record {
      of_own = λ k f at. absurd (nothing k f at);
      stand = λ k f at. absurd (nothing k f at);
      apart = λ j k f g at_j at_k same. absurd (nothing j f at_j);
    }

-- ---- whichever accesses are refused, and whatever others do that own nodes can rely on

module _ (own : ℕ → Bool) {S : Type 0} (step : S → Letter → S → Type 0) (world : S → World)
    (of_world : (s t : S) (l : Letter) → step s l t → IsFallibleUnder own (world s) l (world t)) where
  pub worlds : {s t : S} {word : List Letter} → Run step s word t → Run (IsFallibleUnder own) (world s) word (world t)
  worlds run = run_map world of_world run

  pub agrees_after : {s t : S} {word : List Letter} → Run step s word t → Agrees (world s) → Agrees (world t)
  agrees_after run agrees = (run_keeps {own = own} (worlds run) agrees).0

  -- the world agrees after a command, whoever calls
  pub goes_agree : {s : SessionOver S} {c : Command} {a : Reply} {n : SessionOver S} → AppliesBy step world s c a n → Agrees (world s.table) → Agrees (world n.table)
  goes_agree (goes.call_past le) agrees = agrees
  goes_agree (goes.call_taken e) agrees = agrees
  goes_agree (goes.called f free is) agrees = agrees_after is.2.run agrees
  goes_agree (goes.refused free is) agrees = agrees_after is.2.run agrees
  goes_agree (goes.close_past le) agrees = agrees
  goes_agree (goes.close_empty free) agrees = agrees
  goes_agree (goes.closed f at is) agrees = agrees_after is.2.run agrees
  goes_agree (goes.not_closed f at is) agrees = agrees_after is.run agrees
  goes_agree (goes.listed lists) agrees = agrees
  goes_agree goes.not_listed agrees = agrees

  -- and so it is after the close of each slot
  place_agrees : (s t : S) (o : Option Registered) → ClosesPlaceBy step s o t → Agrees (world s) → Agrees (world t)
  place_agrees s t None is agrees = subst (λ (u : S). Agrees (world u)) (sym is) agrees
  place_agrees s t (Some f) is agrees = agrees_after is.1.run agrees

  pub slots_agree : {s t : S} {slots : List (Option Registered)} → ClosesSlotsBy step s slots t → Agrees (world s) → Agrees (world t)
  slots_agree run agrees = keeps_all (λ s. Agrees (world s)) place_agrees run agrees

  -- the factory of a granted builder call, and what stood before it
  pub given : (b : PatternCall) (f : Registered) {s t : S} → own b.call.caller.node ≡ true → Agrees (world s) → BuildsBy step b s (Ok f) t
      → IsGiven step world b.call s t f
  given b f {s = s} {t = t} mine agrees is =
      seen (λ a. IfOk a (IsGiven step world b.call s t)) b.refusal_of f is.0 is.1 (promise own step world of_world b mine agrees is).given

  kept_by_call : (b : PatternCall) {answer : Result Registered Refusal} {s t : S} → own b.call.caller.node ≡ true → Agrees (world s) → BuildsBy step b s answer t
      → (f : Registered) → own f.node ≡ true → Stands (world s) f → Stands (world t) f
  kept_by_call b mine agrees is f own_f at =
      (at_end (λ u. IsOpen (world u) f) ((promise own step world of_world b mine agrees is).stay_open f own_f at) is.2.run).stands

  -- a close leaves each other factory standing
  pub kept_by_close : (f : Registered) {s t : S} → Agrees (world s) → ClosesFactoryBy step s f t
      → (g : Registered) → own g.node ≡ true → g.ticket ≢ f.ticket → Stands (world s) g → Stands (world t) g
  kept_by_close f {s = s} agrees is g mine apart at =
      at_end (λ u. Stands u g) (close_spares own f is.1.word is.0 (world s) g mine is.1.is_word agrees apart at) (worlds is.1.run)

  -- and one that hands its factory back leaves each standing
  kept_by_refusal : (f : Registered) {s t : S} → Agrees (world s) → HandsBackBy step s f t
      → (g : Registered) → own g.node ≡ true → Stands (world s) g → Stands (world t) g
  kept_by_refusal f {s = s} agrees is g mine at =
      at_end (λ u. Stands u g) (throughout own g (λ u. Stands u g) (λ u new there. there) (world s) is.word mine (spares_each g f refl is.is_word) agrees at) (worlds is.run)

  -- there the factories of the slots stand, if the caller is an own node
  pub stand_after : {s : SessionOver S} {c : Command} {a : Reply} {n : SessionOver S} → AppliesBy step world s c a n → IsOfOwn own s.config c → Agrees (world s.table)
      → SlotsStandUnder own (world s.table) s.slots → SlotsStandUnder own (world n.table) n.slots
  stand_after (goes.call_past le) mine agrees old = old
  stand_after (goes.call_taken e) mine agrees old = old
  stand_after {s = s} (goes.called {call = call} f {t = t} free is) mine agrees old =
      let b = builder_call s.config call in
      let g = given b f mine agrees is in
      put_stands old call.slot f (ap own g.node ∙ mine) (g.stays_open [] tt).stands g.new_ticket (kept_by_call b mine agrees is)
  stand_after {s = s} (goes.refused {call = call} free is) mine agrees old = stand_on old (kept_by_call (builder_call s.config call) mine agrees is)
  stand_after (goes.close_past le) mine agrees old = old
  stand_after (goes.close_empty free) mine agrees old = old
  stand_after (goes.closed {slot = k} f at is) mine agrees old = take_stands old k f at (kept_by_close f agrees (is.0, is.2))
  stand_after (goes.not_closed f at is) mine agrees old = stand_on old (kept_by_refusal f agrees is)
  stand_after (goes.listed lists) mine agrees old = old
  stand_after goes.not_listed mine agrees old = old

-- ---- over a world

module _ {own : ℕ → Bool} where
  any_access : (w v : World) (l : Letter) → IsFallibleUnder own w l v → IsFallibleUnder own w l v
  any_access w v l a = a

  pub agree_in_world : {s n : SessionOver World} {c : Command} {a : Reply} → AppliesInWorld own s c a n → Agrees s.table → Agrees n.table
  agree_in_world goes agrees = goes_agree own (IsFallibleUnder own) (λ w. w) any_access goes agrees

  pub promised_in_world : {s n : SessionOver World} {c : Command} {a : Reply} → AppliesInWorld own s c a n → CallsAsPromisedInWorld own s c a n
  promised_in_world goes = calls_as_promised own (IsFallibleUnder own) (λ w. w) any_access goes

  pub standing_in_world : {s n : SessionOver World} {c : Command} {a : Reply} → AppliesInWorld own s c a n → IsOfOwn own s.config c → Agrees s.table
      → SlotsStandInWorld own s → AppliesStandingInWorld own s c a n
  standing_in_world goes mine agrees old =
      (goes, agree_in_world goes agrees, stand_after own (IsFallibleUnder own) (λ w. w) any_access goes mine agrees old, promised_in_world goes)

  pub closed_in_world : {w v : World} {slots : List (Option Registered)} → ClosesSlotsInWorld own w slots v → Agrees w → Agrees v
  closed_in_world closes agrees = slots_agree own (IsFallibleUnder own) (λ w. w) any_access closes agrees

  -- where all is kept that own nodes rely on
  pub stand_kept : {w v : World} {slots : List (Option Registered)} → KeepsOwn own w v → SlotsStandUnder own w slots → SlotsStandUnder own v slots
  stand_kept {w = w} {v = v} kept old = stand_on old (λ f mine at.
      stands_by_ticket w v f kept.later at.limits at.row kept.agrees (kept.tickets.kept f.ticket (ticket_for f) mine at.ticket))

  pub own_kept : {w v : World} {slots : List (Option Registered)} → KeepsOwn own w v → OwnsTicketsUnder own w slots → OwnsTicketsUnder own v slots
  own_kept kept owned = λ t x mine at. owned t x mine (kept.tickets.no_other t x mine at)

-- ---- where nothing is refused

module _ (own : ℕ → Bool) {S : Type 0} (step : S → Letter → S → Type 0) (world : S → World)
    (of_world : (s t : S) (l : Letter) → step s l t → IsAccessUnder own (world s) l (world t)) where
  -- a taken slot is closed with Ok
  pub close_is_ok : {s t : S} (f : Registered) → own f.node ≡ true → Agrees (world s) → Stands (world s) f → ClosesFactoryBy step s f t → IsClosedPlaceBy step s (Some f) t
  close_is_ok {s} {t} f mine agrees stood is =
      let ok = (closes_what_stands own f is.1.word is.0 (world s) (world t) mine is.1.is_word (run_map world of_world is.1.run) agrees stood).0 in
      record { word = is.1.word; is_word = subst (λ a. IsCloseWord f is.1.word a) ok is.1.is_word; run = is.1.run }

  -- so it isn't handed back
  pub not_handed_back : {s t : S} (f : Registered) → own f.node ≡ true → Agrees (world s) → Stands (world s) f → HandsBackBy step s f t → ⊥
  not_handed_back {s} {t} f mine agrees stood is =
      no_refusal (closes_what_stands own f is.word (Err (NotHere f)) (world s) (world t) mine is.is_word (run_map world of_world is.run) agrees stood).0 f refl

  pub closes_taken : {s : SessionOver S} {c : Command} {a : Reply} {n : SessionOver S} → AppliesBy step world s c a n → Agrees (world s.table)
      → SlotsStandUnder own (world s.table) s.slots → ClosesTakenBy step s c n
  closes_taken (goes.call_past le) agrees old = tt
  closes_taken (goes.call_taken e) agrees old = tt
  closes_taken (goes.called f free is) agrees old = tt
  closes_taken (goes.refused free is) agrees old = tt
  closes_taken (goes.close_past le) agrees old = λ f few at. absurd (omega (arith, le, few))
  closes_taken {s = s} (goes.close_empty {slot = k} free) agrees old = λ f few at. absurd (not_free s.slots k k f free at refl)
  closes_taken {s = s} (goes.closed {slot = k} f {t = t} at is) agrees old = λ g few held.
      let same : f ≡ g = same_slot s.slots k k f g at held refl in
      (subst (λ u. IsClosedPlaceBy step s.table (Some u) t) same (close_is_ok f (old.of_own k f at) agrees (old.stand k f at) (is.0, is.2)), refl)
  closes_taken (goes.not_closed {slot = k} f at is) agrees old = λ g few held. absurd (not_handed_back f (old.of_own k f at) agrees (old.stand k f at) is)
  closes_taken (goes.listed lists) agrees old = tt
  closes_taken goes.not_listed agrees old = tt

-- ---- over a table, at which every node is one's own

pub of_everyone : (config : Config) (c : Command) → IsOfOwn everyone config c
of_everyone config (command.Call call) = refl
of_everyone config (command.Close slot) = tt
of_everyone config command.List = tt

pub unrefused_table : (s t : TableState) (l : Letter) → IsTableAccess s l t → IsAccessUnder everyone s.world l t.world
unrefused_table s t l a = among_others everyone s.world l t.world (table_access s t l a)

-- there no close hands a slot's factory back
pub comes_not_back : (s : SessionState) (k : ℕ) (f : Registered) (t : TableState) → Agrees s.table.world → SlotsStand s → HoldsAt s.slots k f
    → HandsBackBy IsTableAccess s.table f t → ⊥
comes_not_back s k f t agrees old at is = not_handed_back everyone IsTableAccess (λ table. table.world) unrefused_table f (old.of_own k f at) agrees (old.stand k f at) is

pub applies_standing : {s n : SessionState} {c : Command} {a : Reply} → Applies s c a n → Agrees s.table.world → SlotsStand s → AppliesStanding s c a n
applies_standing {s = s} {c = c} goes agrees old = (
  (
    goes,
    goes_agree everyone IsTableAccess (λ table. table.world) (of_table everyone) goes agrees,
    stand_after everyone IsTableAccess (λ table. table.world) (of_table everyone) goes (of_everyone s.config c) agrees old,
    calls_as_promised everyone IsTableAccess (λ table. table.world) (of_table everyone) goes,
  ),
  closes_taken everyone IsTableAccess (λ table. table.world) unrefused_table goes agrees old,
)
