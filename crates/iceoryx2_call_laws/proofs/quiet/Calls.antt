-- The calls over a world that shows the machine and agrees.
use Rattle.std.proofs.Common.{◌≡◌, ℕ, ◌<◌, true, List, Some, None, Result, Ok, Err, refl, sym, subst, cond, ◌∙◌, ap, arith}
use Rattle.std.specs.Prelude.{nat_lt, IfOk}
use Rattle.std.specs.FinMap as map
use Rattle.std.proofs.lemmas.Bool.Decides.{nat_tests}
use Rattle.iceoryx2_description.specs.declared.description.ServiceHash.{ServiceHash}
use Rattle.iceoryx2_description.specs.Description.{max_nodes_of}
use Rattle.iceoryx2_world.specs.Orders.{hash_cmp, hash_total, place_cmp, tag_cmp}
use Rattle.iceoryx2_world.specs.Sets as set
use Rattle.iceoryx2_world.specs.World.{World, or_idle, begins}
use Rattle.iceoryx2_world.specs.declared.world.Participant.TheVariants.{Node}
use Rattle.iceoryx2_access.specs.Letter.{Letter}
use Rattle.iceoryx2_access.specs.Run.{Run, done, next}
use Rattle.iceoryx2_world.specs.Access.{IsOwnPart}
use Rattle.iceoryx2_world.specs.ServiceAgreement.{Later}
use Rattle.iceoryx2_world.specs.Agreement.{Agrees}
use Rattle.iceoryx2_world.specs.Standing.{ticket_for}
use Rattle.iceoryx2_world.proofs.agreement.Whole.{own_hash}
use Rattle.iceoryx2_world.proofs.agreement.Accesses.{own_keeps, later_refl, later_trans}
use Rattle.iceoryx2_rounds.specs.PatternRules.{PatternRules}
use Rattle.iceoryx2_access.specs.Registered.{Registered}
use Rattle.iceoryx2_rounds.specs.declared.caller.Caller.{Caller}
use Rattle.iceoryx2_rounds.specs.Creates.{IsCreateWord, time_of, description_of}
use Rattle.iceoryx2_rounds.specs.Opens.{IsOpenWord}
use Rattle.iceoryx2_call_laws.specs.Quiet.{QuietService, Quiet, ShowsService, Shows, service_at}
use Rattle.iceoryx2_call_laws.specs.QuietCalls.{Creates, Opens, created_by, opened_by, with_service, spend}
use Rattle.iceoryx2_call_laws.specs.QuietCalls as call
use Rattle.iceoryx2_call_laws.specs.QuietLaws.{IsCall, EmptyShows, Follows, ClosesQuietly}
use Rattle.iceoryx2_call_laws.specs.Tickets.{tickets_after}
use Rattle.iceoryx2_call_laws.proofs.quiet.NodeViews.{move_all}
use Rattle.iceoryx2_call_laws.proofs.quiet.Here.{create_here, open_here, close_here}
use Rattle.iceoryx2_call_laws.proofs.quiet.Create.{Made, create_absent}
use Rattle.iceoryx2_call_laws.proofs.quiet.There.{create_there}
use Rattle.iceoryx2_call_laws.proofs.quiet.Tickets.{has_opened, kept_by_call, kept_by_close, given_stands}
use Rattle.iceoryx2_call_laws.proofs.quiet.Close.{close_counted}
use Rattle.iceoryx2_call_laws.proofs.quiet.Opened.{open_absent, open_there}

-- The machine has the service of a registration, whose ticket is the old counter's value.
pub record GivesIn (w : World) (q : Quiet) (r : Registered) : Type 0 where
  service : QuietService
  there : service_at q r.description.hash ≡ Some service
  number : service.number ≡ r.number
  description : service.description ≡ r.description
  ticket : r.ticket ≡ w.counter

-- a run of accesses keeps the agreement
pub run_keeps : {w v : World} {word : List Letter} → Run IsOwnPart w word v → Agrees w → Agrees v × Later w v
run_keeps done old = (old, later_refl _)
run_keeps {w = u} {v = w} (next {mid = v} {letter = l} o rest) old =
    let one = own_keeps u l v o old in
    let more = run_keeps rest one.0 in
    (more.0, later_trans u v w old.everywhere one.1 more.1)

-- what a call that the machine has made leaves
pub is_call : {E : Type 0} {Calls : Quiet → Type 0} {w v : World} {word : List Letter} (r : Result Registered E) → (made : Made Calls (tickets_after w.tickets r) v) → IfOk r (λ x. GivesIn w made.state x) → Run IsOwnPart w word v → Agrees w → IsCall w Calls r v
is_call {E = E} {w = w} {v = v} (Err e) made gives run old =
    let kept = run_keeps run old in
    record { state = made.state; call = made.call; shows = made.shows; agrees = kept.0; tickets = made.tickets; given = gives; kept = kept_by_call {E = E} w v (Err e) old kept.0 kept.1 made.tickets (λ x is. absurd (cc)) }
is_call {E = E} {w = w} {v = v} (Ok r) made gives run old =
    let kept = run_keeps run old in
    record {
      state = made.state;
      call = made.call;
      shows = made.shows;
      agrees = kept.0;
      tickets = made.tickets;
      given = (given_stands w v made.state r gives.service made.shows kept.0 gives.there gives.number gives.description made.tickets, gives.ticket);
      kept = kept_by_call {E = E} w v (Ok r) old kept.0 kept.1 made.tickets (λ x is. let same : r ≡ x = cc in ap (λ (z : Registered). z.ticket) (sym same) ∙ gives.ticket);
    }

pub with_service_has : (q : Quiet) (h : ServiceHash) (x : QuietService) → service_at (spend (with_service q h (Some x))) h ≡ Some x
with_service_has q h x = map.get-insert hash_total q.services h x h ∙ ap (λ b. cond b (Some x) (service_at q h)) (own_hash h)

module _ {E C : Type 0} (m : PatternRules E C) (q : Quiet) (w : World) (s : Shows w q) where
  create_gives : (caller : Caller) (r : Result Registered C) (p : Quiet) → Creates m q caller r p → IfOk r (λ x. GivesIn w p x)
  create_gives caller r p (call.created fits gone runs room) = let x = created_by caller.node (description_of m caller) q.counter in record { service = x; there = with_service_has q caller.hash x; number = refl; description = refl; ticket = sym s.counter }
  create_gives caller r p (call.forbidden bad) = tt
  create_gives caller r p (call.exists x fits there) = tt
  create_gives caller r p (call.no_time fits gone stops) = tt
  create_gives caller r p (call.no_number fits gone runs end) = tt
  create_gives caller r p (call.no_memory fits) = tt
  create_gives caller r p (call.no_memory_locked fits gone runs room) = tt

  open_gives : (i : ℕ) (h : ServiceHash) (r : Result Registered E) (p : Quiet) → Opens m q i h r p → IfOk r (λ x. GivesIn w p x)
  open_gives i h r p (call.opened x there good fits place room) =
      let at_h = subst (λ o. ShowsService w h o) there (s.services h) in
      record { service = opened_by i x; there = ap (service_at (spend (with_service q h (Some (opened_by i x))))) at_h.hash ∙ with_service_has q h (opened_by i x); number = refl; description = refl; ticket = sym s.counter }
  open_gives i h r p (call.absent gone) = tt
  open_gives i h r p (call.misfit x there bad) = tt
  open_gives i h r p (call.not_accepted x there good unfit) = tt
  open_gives i h r p (call.no_place x there good fits none) = tt
  open_gives i h r p (call.no_number x there good fits place end) = tt
  open_gives i h r p (call.no_memory x there) = tt

pub empty_shows : EmptyShows
empty_shows c = record {
  counter = refl;
  services = λ h. rw (map.get-empty {X = QuietService} hash_cmp h) (record {
    row = map.get-empty hash_cmp h;
    segment = map.get-empty hash_cmp h;
    phases = λ i. ap (λ o. begins (or_idle o)) (map.get-empty place_cmp (Node i, h));
    tags = λ i. set.contains-empty tag_cmp (i, h);
  });
}

module _ {E C : Type 0} (m : PatternRules E C) where
  -- A create over a world that shows q is the machine's.
  pub create_follows : (caller : Caller) → 0 < max_nodes_of (m.published (time_of caller.clock)) → Follows (IsCreateWord m caller) (λ q. Creates m q caller)
  create_follows caller room w v q word r quiet is_word =
      let s = quiet.shows in
      let all = move_all caller.node caller.hash (create_here is_word) quiet.run in
      let positive : nat_lt 0 (max_nodes_of (m.published (time_of caller.clock))) ≡ true = grind (arith, nat_tests, room) in
      let made : Made (Creates m q caller r) (tickets_after w.tickets r) v = elim (service_at q caller.hash) as (λ o. service_at q caller.hash ≡ o → Made (Creates m q caller r) (tickets_after w.tickets r) v) [
        | None ↦ λ e. create_absent m caller w v q all.apart s e r word positive is_word all.at
        | Some x ↦ λ e. create_there m caller w v q all.apart s x e r word is_word all.at
      ] refl in
      is_call r made (create_gives m q w s caller r made.state made.call) quiet.run quiet.agrees

  -- So is an open.
  pub open_follows : (i : ℕ) (h : ServiceHash) → Follows (IsOpenWord m i h) (λ q. Opens m q i h)
  open_follows i h w v q word r quiet is_word =
      let s = quiet.shows in
      let all = move_all i h (open_here is_word) quiet.run in
      let made : Made (Opens m q i h r) (tickets_after w.tickets r) v = elim (service_at q h) as (λ o. service_at q h ≡ o → Made (Opens m q i h r) (tickets_after w.tickets r) v) [
        | None ↦ λ e. open_absent m i h w v q all.apart s e r word is_word all.at
        | Some x ↦ λ e. open_there m i h w v q all.apart s quiet.agrees x e r word is_word all.at
      ] refl in
      is_call r made (open_gives m q w s i h r made.state made.call) quiet.run quiet.agrees

-- A close of a factory whose ticket is there is Ok, and the machine's.
pub close_follows : ClosesQuietly
close_follows f w v q word r quiet is_word here =
    let s = quiet.shows in
    let old = quiet.agrees in
    let run = quiet.run in
    let all = move_all f.node f.description.hash (close_here is_word) run in
    let o = has_opened w q f.ticket (ticket_for f) s old here in
    let closed = close_counted f w v q all.apart s o.service o.there o.number o.count o.counted here word r is_word all.at in
    let kept = run_keeps run old in
    (closed.0, record { state = closed.1.state; call = closed.1.call; shows = closed.1.shows; agrees = kept.0; tickets = closed.1.tickets; kept = kept_by_close w v f.ticket kept.0 kept.1 closed.1.tickets })
