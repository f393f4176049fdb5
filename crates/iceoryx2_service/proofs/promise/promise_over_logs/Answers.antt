use Rattle.std.proofs.Common.{◌≡◌, ℕ, Bool, List, Option, subst}
use Rattle.iceoryx2_access.specs.Letter.{Letter}
use Rattle.iceoryx2_world.specs.Interference.{IsFallibleUnder}
use Rattle.iceoryx2_log.specs.Log.{Contents}
use Rattle.iceoryx2_journal.specs.Taking.{is_own}
use Rattle.iceoryx2_journal.specs.Journal.{JournalState}
use Rattle.iceoryx2_journal.proofs.Runs.{access_under}
use Rattle.iceoryx2_builder.proofs.LawfulCalls.{event_call_is_lawful, publish_subscribe_call_is_lawful, request_response_call_is_lawful}
use Rattle.iceoryx2_rounds.specs.BuilderCalls.{BuilderCall}
use Rattle.iceoryx2_rounds.specs.LawfulCalls.{IsLawfulCall}
use Rattle.iceoryx2_call_laws.proofs.calls.Promise.{promise_over}
use Rattle.iceoryx2_service.specs.OverLogs.{IsAccessOf, PromiseOverLog}
use Rattle.iceoryx2_service.proofs.promise.promise_over_logs.Goals as goal

over_log : {L D E C : Type 0} (contents : L → Option Contents) (held : L → Bool) (nodes : List ℕ) (c : BuilderCall D E C) → IsLawfulCall c → PromiseOverLog contents held nodes c
over_log contents held nodes c lawful mine = promise_over c lawful.only_raises (is_own nodes) mine (IsAccessOf contents held nodes) (λ j. j.world)
    (λ s t l a. subst (λ (own_nodes : List ℕ). IsFallibleUnder (is_own own_nodes) s.world l t.world) a.0 (access_under a.1.0))

pub returns-clause-events : goal.returns-clause-events
returns-clause-events g c = λ nodes hash_of b way defined required now. over_log g.L.Log.contents g.L.Log.held nodes _ (event_call_is_lawful hash_of b way defined required now)

pub returns-clause-publish_subscribe : goal.returns-clause-publish_subscribe
returns-clause-publish_subscribe g c = λ nodes hash_of b message way defined required. over_log g.L.Log.contents g.L.Log.held nodes _ (publish_subscribe_call_is_lawful hash_of b message way defined required)

pub returns-clause-request_response : goal.returns-clause-request_response
returns-clause-request_response g c = λ nodes hash_of b messages way defined required. over_log g.L.Log.contents g.L.Log.held nodes _ (request_response_call_is_lawful hash_of b messages way defined required)
