-- What goes by a storage's own steps goes over what it shows.
use Rattle.std.proofs.Common.{◌≡◌, ℕ, Bool, List, [], Option, Some, None, Result, Ok, Err, refl, sym, ap, subst, ◌∙◌}
use Rattle.iceoryx2_access.specs.Letter.{Letter}
use Rattle.iceoryx2_access.specs.Registered.{Registered}
use Rattle.iceoryx2_access.specs.Run.{Run, done}
use Rattle.iceoryx2_world.proofs.Runs.{run_map_where}
use Rattle.iceoryx2_world.specs.Interference.{IsFallibleUnder}
use Rattle.iceoryx2_world.specs.Tables.{TableState, IsTableAccess}
use Rattle.iceoryx2_world.specs.World.{World}
use Rattle.iceoryx2_builder.specs.declared.command.Command.{Command}
use Rattle.iceoryx2_errors.specs.declared.refusal.Refusal.{Refusal}
use Rattle.iceoryx2_builder.specs.declared.command.Reply.{Reply}
use Rattle.iceoryx2_session.specs.CommandLists.{CarriesOut, none, first}
use Rattle.iceoryx2_session.specs.CommandWords.{AppliesAlong}
use Rattle.iceoryx2_session.specs.PatternCalls.{PatternCall}
use Rattle.iceoryx2_session.specs.Patterns.{builder_call}
use Rattle.iceoryx2_session.specs.Sessions.{SessionOver, BuildsBy, LetsGoBy, HandsBackBy, ClosesFactoryBy, ClosesPlaceBy, ClosesSlotsBy, AppliesBy, shown_session}
use Rattle.iceoryx2_session.specs.Sessions.{ClosesSlots, Applies, shown_world, ClosesSlotsInWorld, AppliesInWorld}
use Rattle.iceoryx2_session.specs.Sessions as goes

-- ---- the accesses of a command

pub goes_along : {S : Type 0} {step : S → Letter → S → Type 0} {world : S → World} {s : SessionOver S} {c : Command} {a : Reply} {n : SessionOver S}
    → AppliesBy step world s c a n → AppliesAlong step s c a n
goes_along (goes.call_past le) = record { word = []; is_word = refl; run = done }
goes_along (goes.call_taken e) = record { word = []; is_word = refl; run = done }
goes_along (goes.called f free is) = record { word = is.2.word; is_word = (f, refl, (is.0, is.1, is.2.is_word)); run = is.2.run }
goes_along (goes.refused free is) = record { word = is.2.word; is_word = (is.0, is.1, is.2.is_word); run = is.2.run }
goes_along (goes.close_past le) = record { word = []; is_word = refl; run = done }
goes_along (goes.close_empty free) = record { word = []; is_word = refl; run = done }
goes_along (goes.closed f at is) = record { word = is.2.word; is_word = (f, at, (is.0, is.1, is.2.is_word)); run = is.2.run }
goes_along (goes.not_closed f at is) = record { word = is.word; is_word = (f, at, is.is_word); run = is.run }
goes_along (goes.listed lists) = record { word = []; is_word = refl; run = done }
goes_along goes.not_listed = record { word = []; is_word = refl; run = done }

-- ---- over what is shown, from a state with a property that each access keeps

module _ {S T : Type 0} (step : S → Letter → S → Type 0) (by : T → Letter → T → Type 0) (shown : S → T) (world : T → World)
    (P : S → Type 0) (accesses : (s t : S) (l : Letter) → P s → step s l t → by (shown s) l (shown t) × P t) where
  shown_run : {s t : S} {word : List Letter} → P s → Run step s word t → Run by (shown s) word (shown t) × P t
  shown_run p run = run_map_where shown P accesses p run

  built : (b : PatternCall) (s : S) (answer : Result Registered Refusal) (t : S) → P s → BuildsBy step b s answer t
      → BuildsBy by b (shown s) answer (shown t) × P t
  built b s answer t p is =
      let run = shown_run p is.2.run in
      ((is.0, is.1, record { word = is.2.word; is_word = is.2.is_word; run = run.0 }), run.1)

  closed_factory : (s : S) (f : Registered) (t : S) → P s → ClosesFactoryBy step s f t → ClosesFactoryBy by (shown s) f (shown t) × P t
  closed_factory s f t p is =
      let run = shown_run p is.1.run in
      ((is.0, record { word = is.1.word; is_word = is.1.is_word; run = run.0 }), run.1)

  let_go : (s : S) (f : Registered) (t : S) → P s → LetsGoBy step s f t → LetsGoBy by (shown s) f (shown t) × P t
  let_go s f t p is =
      let run = shown_run p is.2.run in
      ((is.0, is.1, record { word = is.2.word; is_word = is.2.is_word; run = run.0 }), run.1)

  handed_back : (s : S) (f : Registered) (t : S) → P s → HandsBackBy step s f t → HandsBackBy by (shown s) f (shown t) × P t
  handed_back s f t p is =
      let run = shown_run p is.run in
      (record { word = is.word; is_word = is.is_word; run = run.0 }, run.1)

  closed_place : (s t : S) (o : Option Registered) → P s → ClosesPlaceBy step s o t → ClosesPlaceBy by (shown s) o (shown t) × P t
  closed_place s t None p is = (ap shown is, subst P (sym is) p)
  closed_place s t (Some f) p is = closed_factory s f t p is

  pub slots_shown : {s t : S} {slots : List (Option Registered)} → P s → ClosesSlotsBy step s slots t → ClosesSlotsBy by (shown s) slots (shown t) × P t
  slots_shown p run = run_map_where shown P closed_place p run

  pub goes_shown : {s : SessionOver S} {c : Command} {a : Reply} {n : SessionOver S} → P s.table → AppliesBy step (λ u. world (shown u)) s c a n
      → AppliesBy by world (shown_session shown s) c a (shown_session shown n) × P n.table
  goes_shown p (goes.call_past le) = (goes.call_past le, p)
  goes_shown p (goes.call_taken e) = (goes.call_taken e, p)
  goes_shown {s = s} p (goes.called {call = call} f {t = t} free is) =
      let call = built (builder_call s.config call) s.table (Ok f) t p is in (goes.called f free call.0, call.1)
  goes_shown {s = s} p (goes.refused {call = call} {e = e} {t = t} free is) =
      let call = built (builder_call s.config call) s.table (Err e) t p is in (goes.refused free call.0, call.1)
  goes_shown p (goes.close_past le) = (goes.close_past le, p)
  goes_shown p (goes.close_empty free) = (goes.close_empty free, p)
  goes_shown {s = s} p (goes.closed f {t = t} at is) = let close = let_go s.table f t p is in (goes.closed f at close.0, close.1)
  goes_shown {s = s} p (goes.not_closed f {t = t} at is) = let close = handed_back s.table f t p is in (goes.not_closed f at close.0, close.1)
  goes_shown p (goes.listed lists) = (goes.listed lists, p)
  goes_shown p goes.not_listed = (goes.not_listed, p)

  pub all_shown : {s n : SessionOver S} {commands : List Command} {replies : List Reply} → P s.table → CarriesOut (AppliesBy step (λ u. world (shown u))) s commands replies n
      → CarriesOut (AppliesBy by world) (shown_session shown s) commands replies (shown_session shown n) × P n.table
  all_shown p none = (none, p)
  all_shown p (first one rest) =
      let now = goes_shown p one in
      let later = all_shown now.1 rest in
      (first now.0 later.0, later.1)

-- ---- over the table that is shown

module _ {S : Type 0} (step : S → Letter → S → Type 0) (shown : S → TableState)
    (accesses : (s : S) (l : Letter) (t : S) → step s l t → IsTableAccess (shown s) l (shown t)) where
  every_access : (s t : S) (l : Letter) → Unit {0} → step s l t → IsTableAccess (shown s) l (shown t) × Unit {0}
  every_access s t l p a = (accesses s l t a, tt)

  pub goes_at_table : {s : SessionOver S} {c : Command} {a : Reply} {n : SessionOver S} → AppliesBy step (shown_world shown) s c a n
      → Applies (shown_session shown s) c a (shown_session shown n)
  goes_at_table is = (goes_shown step IsTableAccess shown (λ table. table.world) (λ s. Unit {0}) every_access tt is).0

  pub all_at_table : {s n : SessionOver S} {commands : List Command} {replies : List Reply} → CarriesOut (AppliesBy step (shown_world shown)) s commands replies n
      → CarriesOut Applies (shown_session shown s) commands replies (shown_session shown n)
  all_at_table is = (all_shown step IsTableAccess shown (λ table. table.world) (λ s. Unit {0}) every_access tt is).0

  pub slots_at_table : {s t : S} {slots : List (Option Registered)} → ClosesSlotsBy step s slots t → ClosesSlots (shown s) slots (shown t)
  slots_at_table is = (slots_shown step IsTableAccess shown (λ table. table.world) (λ s. Unit {0}) every_access tt is).0

-- ---- over the world that is shown, with the nodes that are own at the start

module _ {S : Type 0} (step : S → Letter → S → Type 0) (world : S → World) (own : S → ℕ → Bool)
    (accesses : (s : S) (l : Letter) (t : S) → step s l t → IsFallibleUnder (own s) (world s) l (world t))
    (keeps_own : (s : S) (l : Letter) (t : S) → step s l t → own t ≡ own s) where
  own_access : (start s t : S) (l : Letter) → own s ≡ own start → step s l t → IsFallibleUnder (own start) (world s) l (world t) × (own t ≡ own start)
  own_access start s t l same a =
      (subst (λ (o : ℕ → Bool). IsFallibleUnder o (world s) l (world t)) same (accesses s l t a), keeps_own s l t a ∙ same)

  pub run_in_world : {s t : S} {word : List Letter} → Run step s word t → Run (IsFallibleUnder (own s)) (world s) word (world t) × (own t ≡ own s)
  run_in_world {s = s} run = run_map_where world (λ u. own u ≡ own s) (own_access s) refl run

  pub goes_in_world : {s : SessionOver S} {c : Command} {a : Reply} {n : SessionOver S} → AppliesBy step world s c a n
      → AppliesInWorld (own s.table) (shown_session world s) c a (shown_session world n) × (own n.table ≡ own s.table)
  goes_in_world {s = s} is =
      goes_shown step (IsFallibleUnder (own s.table)) world (λ w. w) (λ u. own u ≡ own s.table) (own_access s.table) refl is

  pub all_in_world : {s n : SessionOver S} {commands : List Command} {replies : List Reply} → CarriesOut (AppliesBy step world) s commands replies n
      → CarriesOut (AppliesInWorld (own s.table)) (shown_session world s) commands replies (shown_session world n) × (own n.table ≡ own s.table)
  all_in_world {s = s} is =
      all_shown step (IsFallibleUnder (own s.table)) world (λ w. w) (λ u. own u ≡ own s.table) (own_access s.table) refl is

  pub slots_in_world : {s t : S} {slots : List (Option Registered)} → ClosesSlotsBy step s slots t
      → ClosesSlotsInWorld (own s) (world s) slots (world t) × (own t ≡ own s)
  slots_in_world {s = s} is =
      slots_shown step (IsFallibleUnder (own s)) world (λ w. w) (λ u. own u ≡ own s) (own_access s) refl is

-- ---- over two views of one world

same_view : {S : Type 0} (v w : S → World) → ((s : S) → v s ≡ w s) → v ≡ w
same_view v w same = λ i s. same s i

-- where two views show the same world, commands go in the same way over both
module _ {S : Type 0} {step : S → Letter → S → Type 0} (v w : S → World) (same : (s : S) → v s ≡ w s) where
  pub goes_seen : {s : SessionOver S} {c : Command} {a : Reply} {n : SessionOver S} → AppliesBy step w s c a n → AppliesBy step v s c a n
  goes_seen {s = s} {c = c} {a = a} {n = n} is = subst (λ (u : S → World). AppliesBy step u s c a n) (sym (same_view v w same)) is

  pub all_seen : {s n : SessionOver S} {commands : List Command} {replies : List Reply} → CarriesOut (AppliesBy step w) s commands replies n
      → CarriesOut (AppliesBy step v) s commands replies n
  all_seen {s = s} {n = n} {commands = commands} {replies = replies} is =
      subst (λ (u : S → World). CarriesOut (AppliesBy step u) s commands replies n) (sym (same_view v w same)) is
