-- A session's builder calls are calls.
use Rattle.std.proofs.Common.{◌≡◌, ℕ, Bool, true, List, Option, Some, None, Result, Ok, Err, refl, ap, subst, arith}
use Rattle.std.specs.Prelude.{slice_set}
use Rattle.iceoryx2_access.specs.Letter.{Letter}
use Rattle.iceoryx2_access.specs.Registered.{Registered}
use Rattle.iceoryx2_attribute.specs.Requirements.{Requirements}
use Rattle.iceoryx2_description.specs.declared.config.Config.{Config}
use Rattle.iceoryx2_description.specs.declared.time.ClockFault.{ClockFault}
use Rattle.iceoryx2_description.specs.Span.{Span}
use Rattle.iceoryx2_world.specs.World.{World}
use Rattle.iceoryx2_world.specs.Agreement.{Agrees}
use Rattle.iceoryx2_world.specs.Interference.{IsFallibleUnder}
use Rattle.iceoryx2_rounds.specs.Answers.{map_err}
use Rattle.iceoryx2_rounds.specs.Adjusting.{OnlyRaises}
use Rattle.iceoryx2_rounds.specs.BuilderCalls.{Way}
use Rattle.iceoryx2_call_laws.specs.Headline.{IsAsPromised}
use Rattle.iceoryx2_call_laws.proofs.calls.Headline.{as_promised}
use Rattle.iceoryx2_builder.proofs.Adjusting.{events_only_raise, publish_subscribe_only_raises, request_response_only_raises}
use Rattle.iceoryx2_builder.specs.declared.command.Settings.{Settings}
use Rattle.iceoryx2_builder.specs.declared.command.Settings.TheVariants as settings
use Rattle.iceoryx2_builder.specs.declared.command.Call.{Call}
use Rattle.iceoryx2_builder.specs.declared.command.Command.{Command}
use Rattle.iceoryx2_errors.specs.declared.refusal.Refusal.{Refusal}
use Rattle.iceoryx2_builder.specs.declared.command.Reply.{Reply}
use Rattle.iceoryx2_builder.specs.declared.command.Reply.TheVariants as reply
use Rattle.iceoryx2_session.specs.PatternCalls.{PatternCall, way_of}
use Rattle.iceoryx2_session.specs.Patterns.{call_by, builder_call}
use Rattle.iceoryx2_session.specs.Sessions.{SessionOver, BuildsBy, AppliesBy}
use Rattle.iceoryx2_session.specs.Sessions as goes
use Rattle.iceoryx2_session.specs.Slots.{FreeAt, HoldsAt}
use Rattle.iceoryx2_session.specs.Promised.{AnswerTo, IsRepliedBy, IsPromisedBy, CallsAsPromisedBy}
use Rattle.iceoryx2_session.proofs.SlotLists.{not_free, set_here}

-- the reply to a call that answers Ok, and what its slot holds then
opened_by : (b : PatternCall) (own : AnswerTo b) (slot : ℕ) (f : Registered) (slots : List (Option Registered)) → Ok f ≡ map_err b.refusal_of own → FreeAt slots slot
    → IsRepliedBy b own slot (reply.Opened slot f.number) (slice_set slots slot (Some f))
opened_by b (Ok g) slot f slots e free =
    let is : f ≡ g = cc in
    subst (λ (h : Registered). (reply.Opened slot f.number ≡ reply.Opened slot h.number) × HoldsAt (slice_set slots slot (Some f)) slot h) is
    (refl, set_here slots slot (Some f) None free)
opened_by b (Err e) slot f slots is free = absurd cc

-- the reply to one that is refused
refused_by : (b : PatternCall) (own : AnswerTo b) (slot : ℕ) (e : Refusal) (slots : List (Option Registered)) → Err e ≡ map_err b.refusal_of own → FreeAt slots slot
    → IsRepliedBy b own slot (reply.Refused e) slots
refused_by b (Ok g) slot e slots is free = absurd cc
refused_by b (Err x) slot e slots is free = let same : e ≡ b.refusal_of x = cc in (ap (λ (y : Refusal). reply.Refused y) same, free)

raises_by : (config : Config) (node : ℕ) (name : List ℕ) (way : Way) (attributes : Requirements) (now : Result Span ClockFault) (x : Settings)
    → let b = call_by config node name way attributes now x in OnlyRaises b.call.meaning b.call.adjusted
raises_by config node name way attributes now (settings.Event xs) = events_only_raise
raises_by config node name way attributes now (settings.PublishSubscribe xs) = publish_subscribe_only_raises
raises_by config node name way attributes now (settings.RequestResponse xs) = request_response_only_raises

-- over a storage whose accesses are accesses of its world under interference, of which any may be refused
module _ (own : ℕ → Bool) {S : Type 0} (step : S → Letter → S → Type 0) (world : S → World)
    (of_world : (s t : S) (l : Letter) → step s l t → IsFallibleUnder own (world s) l (world t)) where
  pub promise : (b : PatternCall) {s t : S} {answer : Result Registered Refusal} → own b.call.caller.node ≡ true → Agrees (world s)
      → (is : BuildsBy step b s answer t) → IsAsPromised step world b.call own s is.2.word is.0 t
  promise b {s = s} {t = t} mine agrees is = as_promised own step world of_world b.call mine is.2.word is.0 s t is.2.is_word is.2.run agrees

  promised : (config : Config) (call : Call) (s : S) (answer : Result Registered Refusal) (a : Reply) (n : SessionOver S) → let b = builder_call config call in
      (is : BuildsBy step b s answer n.table) → IsRepliedBy b is.0 call.slot a n.slots → IsPromisedBy step world own b call.slot s a n
  promised config call s answer a n is replied = record {
    answered = is.0;
    replied = replied;
    word = is.2.word;
    is_word = is.2.is_word;
    run = is.2.run;
    only_raises = raises_by config call.node call.name (way_of call.how) call.attributes call.now call.settings;
    promised = λ mine agrees. promise (builder_call config call) mine agrees is;
  }

  pub calls_as_promised : {s : SessionOver S} {c : Command} {a : Reply} {n : SessionOver S} → AppliesBy step world s c a n → CallsAsPromisedBy step world own s c a n
  calls_as_promised (goes.call_past le) = λ few free. absurd (omega (arith, le, few))
  calls_as_promised {s = s} (goes.call_taken {call = call} taken) = λ few free. absurd (not_free s.slots call.slot call.slot taken.0 free taken.1 refl)
  calls_as_promised {s = s} {a = a} {n = n} (goes.called {call = call} f free is) = λ few _.
      promised s.config call s.table (Ok f) a n is (opened_by (builder_call s.config call) is.0 call.slot f s.slots is.1 free)
  calls_as_promised {s = s} {a = a} {n = n} (goes.refused {call = call} {e = e} free is) = λ few _.
      promised s.config call s.table (Err e) a n is (refused_by (builder_call s.config call) is.0 call.slot e s.slots is.1 free)
  calls_as_promised (goes.close_past le) = tt
  calls_as_promised (goes.close_empty free) = tt
  calls_as_promised (goes.closed f at is) = tt
  calls_as_promised (goes.not_closed f at is) = tt
  calls_as_promised (goes.listed lists) = tt
  calls_as_promised goes.not_listed = tt
