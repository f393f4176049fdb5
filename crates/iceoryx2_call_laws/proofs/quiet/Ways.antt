-- The calls of a builder over a world that shows the machine: the first round of an open or create is its last.
use Rattle.std.proofs.Common.{◌≡◌, ℕ, false, List, ◌++◌, Some, None, Result, Ok, Err, refl, sym, ap, subst, ◌∙◌, arith}
use mathlib.Core.Bool.{true≢false}
use Rattle.iceoryx2_description.specs.Description.{Description}
use Rattle.iceoryx2_world.specs.World.{World}
use Rattle.iceoryx2_access.specs.Letter.{Letter}
use Rattle.iceoryx2_access.specs.Run.{Run, done}
use Rattle.iceoryx2_access.specs.Registered.{Registered}
use Rattle.iceoryx2_access.proofs.Run.{split}
use Rattle.iceoryx2_world.specs.Access.{IsOwnPart}
use Rattle.iceoryx2_world.specs.Agreement.{Agrees}
use Rattle.iceoryx2_rounds.specs.Answers.{map_err}
use Rattle.iceoryx2_rounds.specs.Creates.{time_of}
use Rattle.iceoryx2_rounds.specs.declared.look.Fault.{Fault}
use Rattle.iceoryx2_rounds.specs.declared.look.Outcome.{Outcome}
use Rattle.iceoryx2_rounds.specs.declared.look.Outcome.TheVariants as outcome
use Rattle.iceoryx2_rounds.specs.Looks.{IsLookWord}
use Rattle.iceoryx2_rounds.specs.Refusals.{open_error_of}
use Rattle.iceoryx2_rounds.specs.Opens as opens
use Rattle.iceoryx2_rounds.proofs.RoundAttributes.{looks}
use Rattle.iceoryx2_rounds.specs.declared.open_or_create.OpenOrCreateRefusal.{OpenOrCreateRefusal}
use Rattle.iceoryx2_rounds.specs.declared.open_or_create.OpenOrCreateRefusal.TheVariants as refusal
use Rattle.iceoryx2_rounds.specs.OpenOrCreates.{IsOwnCreate, IsOwnOpen, IsRetriedAttempt, open_retried, create_retried, IsLastAttempt, look_faulty, not_opened, opened, not_created, created, AreRetriedAttempts, no_attempt, one_more, IsOpenOrCreateWord, ended, in_flux}
use Rattle.iceoryx2_rounds.specs.BuilderCalls.{BuilderCall, Way, ToCreate, ToOpen, ToOpenOrCreate, ErrorBy, creating, opening, asking, rounds_of}
use Rattle.iceoryx2_rounds.specs.LawfulCalls.{IsLawfulCall}
use Rattle.iceoryx2_rounds.specs.CallWords.{IsWordBy}
use Rattle.iceoryx2_call_laws.specs.Quiet.{QuietService, Quiet, Shows, service_at}
use Rattle.iceoryx2_call_laws.specs.QuietWays as attempt
use Rattle.iceoryx2_call_laws.specs.QuietWays.{OpensOrCreates, Answers}
use Rattle.iceoryx2_call_laws.specs.QuietCalls.{Creates, Opens}
use Rattle.iceoryx2_call_laws.specs.QuietCalls as call
use Rattle.iceoryx2_call_laws.specs.QuietLaws.{RunsQuietly, IsCall, Follows, RefusalHoldsTheSame}
use Rattle.iceoryx2_call_laws.proofs.quiet.After.{create_refused, open_refused}
use Rattle.iceoryx2_call_laws.proofs.quiet.Calls.{create_follows, open_follows}
use Rattle.iceoryx2_call_laws.proofs.quiet.Prepared.{prepared_follows, refused_if}
use Rattle.iceoryx2_call_laws.proofs.quiet.Same.{holds_the_same}
use Rattle.iceoryx2_call_laws.proofs.quiet.Looked.{after_rest, rest_shows, look_rests_absent, look_rests_there, never_nothing}

module _ {D E C : Type 0} (a : BuilderCall D E C) (lawful : IsLawfulCall a) (q : Quiet) where
  abbrev IsIt : World → Result Registered (OpenOrCreateRefusal E C) → World → Type 0
  IsIt w answer v = IsCall w (OpensOrCreates a q answer) answer v

  -- ---- no refusal of the machine is tried again

  create_ends : {answer : Result Registered C} {p : Quiet} (error : C) → answer ≡ Err error → service_at q a.caller.hash ≡ None → Creates (creating a) q a.caller answer p → a.retried.of_create error ≡ false
  create_ends error e gone (call.forbidden {error = f} bad) = let is : f ≡ error = cc in ap a.retried.of_create (sym is) ∙ lawful.ends_at_once.forbidden f bad
  create_ends error e gone (call.exists x fits there) = absurd (cc)
  create_ends error e gone (call.no_time fits _ stops) = let is : (creating a).create_refusal _ ≡ error = cc in ap a.retried.of_create (sym is) ∙ lawful.ends_at_once.not_created
  create_ends error e gone (call.no_number fits _ runs end) = let is : (creating a).create_refusal _ ≡ error = cc in ap a.retried.of_create (sym is) ∙ lawful.ends_at_once.not_created
  create_ends error e gone (call.created fits _ runs room) = absurd (cc)
  create_ends error e gone (call.no_memory fits) = let is : (creating a).create_refusal _ ≡ error = cc in ap a.retried.of_create (sym is) ∙ lawful.ends_at_once.created_without_memory
  create_ends error e gone (call.no_memory_locked fits _ runs room) = let is : (creating a).create_refusal _ ≡ error = cc in ap a.retried.of_create (sym is) ∙ lawful.ends_at_once.created_without_memory

  open_ends : {answer : Result Registered E} {p : Quiet} (x : QuietService) (error : E) → answer ≡ Err error → service_at q a.caller.hash ≡ Some x → (a.meaning a.asked).misfit x.description ≡ None → Opens (opening a) q a.caller.node a.caller.hash answer p → a.retried.of_open error ≡ false
  open_ends x error e there fits (call.absent gone) = absurd (cc)
  open_ends x error e there fits (call.misfit y at bad) = let is : y ≡ x = cc in let none = ap (λ (z : QuietService). (a.meaning a.asked).misfit z.description) is ∙ fits in absurd (cc)
  open_ends x error e there fits (call.not_accepted {error = f} y at good unfit) = let is : f ≡ error = cc in ap a.retried.of_open (sym is) ∙ lawful.ends_at_once.not_accepted y.description f unfit
  open_ends x error e there fits (call.no_place y at good met none) = let is : (opening a).open_refusal _ ≡ error = cc in ap a.retried.of_open (sym is) ∙ lawful.ends_at_once.no_place
  open_ends x error e there fits (call.no_number y at good met place end) = let is : (opening a).open_refusal _ ≡ error = cc in ap a.retried.of_open (sym is) ∙ lawful.ends_at_once.not_opened
  open_ends x error e there fits (call.opened y at good met place room) = absurd (cc)
  open_ends x error e there fits (call.no_memory y at) = let is : (opening a).open_refusal _ ≡ error = cc in ap a.retried.of_open (sym is) ∙ lawful.ends_at_once.opened_without_memory

  -- ---- the part after the look of a round

  created_call : {w v : World} (answer : Result Registered C) → service_at q a.caller.hash ≡ None → IsCall w (Creates (creating a) q a.caller answer) answer v → IsIt w (map_err refusal.Create answer) v
  created_call (Ok r) gone c = record { state = c.state; call = attempt.creates gone c.call; shows = c.shows; agrees = c.agrees; tickets = c.tickets; given = c.given; kept = c.kept }
  created_call (Err e) gone c = record { state = c.state; call = attempt.creates gone c.call; shows = c.shows; agrees = c.agrees; tickets = c.tickets; given = tt; kept = c.kept }

  opened_call : {w v : World} (answer : Result Registered E) (x : QuietService) → service_at q a.caller.hash ≡ Some x → IsCall w (Opens (opening a) q a.caller.node a.caller.hash answer) answer v → IsIt w (map_err refusal.Open answer) v
  opened_call (Ok r) x there c = record { state = c.state; call = attempt.opens x there c.call; shows = c.shows; agrees = c.agrees; tickets = c.tickets; given = c.given; kept = c.kept }
  opened_call (Err e) x there c = record { state = c.state; call = attempt.opens x there c.call; shows = c.shows; agrees = c.agrees; tickets = c.tickets; given = tt; kept = c.kept }

  -- ---- one round

  -- what the look of a round finds wrong an open finds wrong
  faulty_open : {fault : Fault E} {word : List Letter} → IsLookWord (a.meaning a.asked) a.caller.node a.caller.hash word (outcome.Faulty fault) → IsOwnOpen a word (Err (open_error_of (a.meaning a.asked) fault))
  faulty_open l = opens.ended (omega arith) opens.no_round (opens.look_faulty (looks (a.meaning a.asked) (opening a).attributes (opening a).requirement l))

  module _ {w v : World} (s : Shows w q) (old : Agrees w) where
    -- a create after a look, where there is no service
    then_created : {x y : List Letter} (answer : Result Registered C) → service_at q a.caller.hash ≡ None → IsLookWord (a.meaning a.asked) a.caller.node a.caller.hash x outcome.Nothing → IsOwnCreate a y answer → Run IsOwnPart w (x ++ y) v → IsCall w (Creates (creating a) q a.caller answer) answer v
    then_created {x} {y} answer gone l c run =
        let parts = split x y run in
        let rest = (look_rests_absent (a.meaning a.asked) a.caller.node a.caller.hash s old gone l parts.first).1 in
        after_rest (λ p. Creates (creating a) p a.caller answer) answer s rest (create_follows (creating a) a.caller (lawful.takes_nodes (time_of a.caller.clock)) parts.mid v q y answer (record { shows = rest_shows rest; agrees = rest.agrees; run = parts.second }) c)

    -- an open after a look, where there is one
    then_opened : {x y : List Letter} {n : ℕ} {d : Description} (answer : Result Registered E) (z : QuietService) → service_at q a.caller.hash ≡ Some z → IsLookWord (a.meaning a.asked) a.caller.node a.caller.hash x (outcome.Found n d) → IsOwnOpen a y answer → Run IsOwnPart w (x ++ y) v
        → ((a.meaning a.asked).misfit z.description ≡ None) × IsCall w (Opens (opening a) q a.caller.node a.caller.hash answer) answer v
    then_opened {x} {y} answer z there l o run =
        let parts = split x y run in
        let f = look_rests_there (a.meaning a.asked) a.caller.node a.caller.hash s old z there l parts.first in
        (f.fits, after_rest (λ p. Opens (opening a) p a.caller.node a.caller.hash answer) answer s f.rest (open_follows (opening a) a.caller.node a.caller.hash parts.mid v q y answer (record { shows = rest_shows f.rest; agrees = f.rest.agrees; run = parts.second }) o))

    -- a look finds nothing where there is no service, and something where there is one
    not_gone : (x y : List Letter) {o : Outcome E} → (o ≡ outcome.Nothing → ⊥) → service_at q a.caller.hash ≡ None → IsLookWord (a.meaning a.asked) a.caller.node a.caller.hash x o → Run IsOwnPart w (x ++ y) v → ⊥
    not_gone x y other gone l run = other (look_rests_absent (a.meaning a.asked) a.caller.node a.caller.hash s old gone l (split x y run).first).0

    not_there : (x y : List Letter) (z : QuietService) → service_at q a.caller.hash ≡ Some z → IsLookWord (a.meaning a.asked) a.caller.node a.caller.hash x outcome.Nothing → Run IsOwnPart w (x ++ y) v → ⊥
    not_there x y z there l run = never_nothing (a.meaning a.asked) a.caller.node a.caller.hash s old z there l (split x y run).first

    none_retried : {word : List Letter} {next : D} → IsRetriedAttempt a word next → Run IsOwnPart w word v → ⊥
    none_retried (open_retried {u = x} {v = y} {error = error} l o again) run = elim (service_at q a.caller.hash) as (λ z. service_at q a.caller.hash ≡ z → ⊥) [
      | None ↦ λ gone. not_gone x y (λ e. cc) gone l run
      | Some z ↦ λ there. let c = then_opened (Err error) z there l o run in true≢false (sym again ∙ open_ends z error refl there c.0 c.1.call)
    ] refl
    none_retried (create_retried {u = x} {v = y} {error = error} l c again) run = elim (service_at q a.caller.hash) as (λ z. service_at q a.caller.hash ≡ z → ⊥) [
      | None ↦ λ gone. true≢false (sym again ∙ create_ends error refl gone (then_created (Err error) gone l c run).call)
      | Some z ↦ λ there. not_there x y z there l run
    ] refl

    last_is : {word : List Letter} {answer : Result Registered (OpenOrCreateRefusal E C)} → IsLastAttempt a word answer → Run IsOwnPart w word v → IsIt w answer v
    last_is {word} (look_faulty {fault} l) run = elim (service_at q a.caller.hash) as (λ z. service_at q a.caller.hash ≡ z → IsIt w (Err (refusal.Open (open_error_of (a.meaning a.asked) fault))) v) [
      | None ↦ λ gone. let none = (look_rests_absent (a.meaning a.asked) a.caller.node a.caller.hash s old gone l run).0 in absurd (cc)
      | Some z ↦ λ there. let refused : Result Registered E = Err (open_error_of (a.meaning a.asked) fault) in opened_call refused z there (open_follows (opening a) a.caller.node a.caller.hash w v q word refused (record { shows = s; agrees = old; run = run }) (faulty_open l))
    ] refl
    last_is (not_opened {u = x} {v = y} {error = error} l o ends) run = elim (service_at q a.caller.hash) as (λ z. service_at q a.caller.hash ≡ z → IsIt w (Err (refusal.Open error)) v) [
      | None ↦ λ gone. absurd (not_gone x y (λ e. cc) gone l run)
      | Some z ↦ λ there. opened_call (Err error) z there (then_opened (Err error) z there l o run).1
    ] refl
    last_is (opened {u = x} {v = y} {r = r} l o) run = elim (service_at q a.caller.hash) as (λ z. service_at q a.caller.hash ≡ z → IsIt w (Ok r) v) [
      | None ↦ λ gone. absurd (not_gone x y (λ e. cc) gone l run)
      | Some z ↦ λ there. opened_call (Ok r) z there (then_opened (Ok r) z there l o run).1
    ] refl
    last_is (not_created {u = x} {v = y} {error = error} l c ends) run = elim (service_at q a.caller.hash) as (λ z. service_at q a.caller.hash ≡ z → IsIt w (Err (refusal.Create error)) v) [
      | None ↦ λ gone. created_call (Err error) gone (then_created (Err error) gone l c run)
      | Some z ↦ λ there. absurd (not_there x y z there l run)
    ] refl
    last_is (created {u = x} {v = y} {r = r} l c) run = elim (service_at q a.caller.hash) as (λ z. service_at q a.caller.hash ≡ z → IsIt w (Ok r) v) [
      | None ↦ λ gone. created_call (Ok r) gone (then_created (Ok r) gone l c run)
      | Some z ↦ λ there. absurd (not_there x y z there l run)
    ] refl

  -- ---- all rounds

  record NoTurn (k : ℕ) (w v : World) (asked : D) : Type 0 where
    number : k ≡ 0
    asked_still : asked ≡ a.asked
    world : v ≡ w

  no_turns : {k : ℕ} {word : List Letter} {asked : D} {w v : World} → AreRetriedAttempts a k word asked → Run IsOwnPart w word v → Shows w q → Agrees w → NoTurn k w v asked
  no_turns no_attempt done s old = record { number = refl; asked_still = refl; world = refl }
  no_turns {v = v} (one_more {u = x} {v = y} {next = next} before t) run s old =
      let parts = split x y run in
      let none = no_turns before parts.first s old in
      absurd (none_retried s old (subst (λ d. IsRetriedAttempt (asking a d) y next) none.asked_still t) (subst (λ u. Run IsOwnPart u y v) none.world parts.second))

  attempt_follows : {word : List Letter} {answer : Result Registered (OpenOrCreateRefusal E C)} {w v : World} → RunsQuietly w q word v → IsOpenOrCreateWord a word answer → IsIt w answer v
  attempt_follows {v = v} quiet (ended {u = x} {v = y} {answer = answer} small before t) =
      let parts = split x y quiet.run in
      let none = no_turns before parts.first quiet.shows quiet.agrees in
      last_is quiet.shows quiet.agrees (subst (λ d. IsLastAttempt (asking a d) y answer) none.asked_still t) (subst (λ u. Run IsOwnPart u y v) none.world parts.second)
  attempt_follows quiet (in_flux before) = absurd (omega (arith, (no_turns before quiet.run quiet.shows quiet.agrees).number))

-- ---- a refused one keeps the services

carried_error : {G R : Type 0} (carry : G → R) (answer : Result Registered G) (error : R) → map_err carry answer ≡ Err error → (e : G) × (answer ≡ Err e)
carried_error carry (Ok r) error is = absurd (cc)
carried_error carry (Err e) error is = (e, refl)

module _ {D E C : Type 0} (a : BuilderCall D E C) (q : Quiet) where
  keeps_services : {answer : Result Registered (OpenOrCreateRefusal E C)} {p : Quiet} (error : OpenOrCreateRefusal E C) → answer ≡ Err error → OpensOrCreates a q answer p → p.services ≡ q.services
  keeps_services {p = p} error is (attempt.creates {answer = answer} gone c) =
      let e = carried_error refusal.Create answer error is in
      create_refused (creating a) a.caller q p e.0 (subst (λ z. Creates (creating a) q a.caller z p) e.1 c)
  keeps_services {p = p} error is (attempt.opens {answer = answer} x there o) =
      let e = carried_error refusal.Open answer error is in
      open_refused (opening a) a.caller.node a.caller.hash q p e.0 (subst (λ z. Opens (opening a) q a.caller.node a.caller.hash z p) e.1 o)

lawful_prepared : {D E C : Type 0} (a : BuilderCall D E C) → IsLawfulCall a → IsLawfulCall (rounds_of a)
lawful_prepared a l = record { takes_nodes = l.takes_nodes; only_raises = l.only_raises; accepts_own = l.accepts_own; ends_at_once = l.ends_at_once }

-- Every call is the machine's, and a refused one keeps its services.
module _ {D E C : Type 0} (a : BuilderCall D E C) where
  -- an open without what is asked of the other two
  pub opening_follows : Follows (IsWordBy a ToOpen) (Answers a ToOpen)
  opening_follows = prepared_follows a.prepares _ (open_follows (opening a) a.caller.node a.caller.hash)

  pub call_follows : (way : Way) → IsLawfulCall a → Follows (IsWordBy a way) (Answers a way)
  call_follows ToCreate lawful = prepared_follows a.prepares _ (create_follows (creating a) a.caller (lawful.takes_nodes (time_of a.caller.clock)))
  call_follows ToOpen lawful = opening_follows
  call_follows ToOpenOrCreate lawful = prepared_follows a.prepares _ (λ w v q word answer quiet is. attempt_follows (rounds_of a) (lawful_prepared a lawful) q quiet is)

  services_by : (way : Way) (q p : Quiet) (error : ErrorBy E C way) → Answers a way q (Err error) p → p.services ≡ q.services
  services_by ToCreate q p error c = refused_if _ q _ a.prepares p error (λ e p is. create_refused (creating a) a.caller q p e is) c
  services_by ToOpen q p error c = refused_if _ q _ a.prepares p error (λ e p is. open_refused (opening a) a.caller.node a.caller.hash q p e is) c
  services_by ToOpenOrCreate q p error c = refused_if _ q _ a.prepares p error (λ e p is. keeps_services (rounds_of a) q e refl is) c

  pub refused_call : RefusalHoldsTheSame a
  refused_call w v q p error s t c = holds_the_same w v q p s t (services_by a.way q p error c)
