use Rattle.std.proofs.Common.{◌≢◌, ◌∷◌, codes, refl, ap, subst}
use Rattle.iceoryx2_access.specs.Run.{Each}
use Rattle.negotiate_lines.specs.Commands.{IsCommandOf, IsNamedCallOf}
use Rattle.negotiate_lines.specs.SettingTerms.{event_vocabulary, publish_subscribe_vocabulary, request_response_vocabulary}
use Rattle.negotiate_lines.specs.Terms.{terms_of}
use Rattle.negotiate_lines.specs.Wrongs.{WrongCall, WrongTerms, event, publish_subscribe, request_response, no_command, command_words}
use Rattle.negotiate_lines.proofs.Judging.{passed}
use Rattle.negotiate_lines.proofs.OneCommand.{only_event, only_samples, only_requests, no_command_word}
use Rattle.negotiate_lines.proofs.line.judge.Goals as goal

pub returns-in_err-judge_call-in-event : goal.returns-in_err-judge_call-in-event
returns-in_err-judge_call-in-event c =
    let first = c.args.first.now in
    let terms = terms_of c.args.others.now in
    passed (IsNamedCallOf c.args.form event_vocabulary (codes "event" ∷ terms)) (IsCommandOf c.args.form (first ∷ terms)) (WrongCall c.args.form event_vocabulary terms) (WrongTerms c.args.form (first ∷ terms)) _ _
    c.from_residual.ensures.1 c.in_err-judge_call-in-event.ensures
    (λ none some_command is_such. let call = only_event c.args.form terms some_command (subst (λ t. IsCommandOf c.args.form (t ∷ terms) some_command) c.in-event.is is_such) in none call.0 call.1)
    (λ w is. event terms (ap (λ t. t ∷ terms) c.in-event.is) is)

pub returns-in_err-call-in-pubsub : goal.returns-in_err-call-in-pubsub
returns-in_err-call-in-pubsub c =
    let first = c.args.first.now in
    let terms = terms_of c.args.others.now in
    passed (IsNamedCallOf c.args.form publish_subscribe_vocabulary (codes "pubsub" ∷ terms)) (IsCommandOf c.args.form (first ∷ terms)) (WrongCall c.args.form publish_subscribe_vocabulary terms) (WrongTerms c.args.form (first ∷ terms)) _ _
    c.from_residual-in_err-call-in-pubsub.ensures.1 c.in_err-call-in-pubsub.ensures
    (λ none some_command is_such. let call = only_samples c.args.form terms some_command (subst (λ t. IsCommandOf c.args.form (t ∷ terms) some_command) c.in-pubsub.is is_such) in none call.0 call.1)
    (λ w is. publish_subscribe terms (ap (λ t. t ∷ terms) c.in-pubsub.is) is)

pub returns-in_err-call-in-rr : goal.returns-in_err-call-in-rr
returns-in_err-call-in-rr c =
    let first = c.args.first.now in
    let terms = terms_of c.args.others.now in
    passed (IsNamedCallOf c.args.form request_response_vocabulary (codes "rr" ∷ terms)) (IsCommandOf c.args.form (first ∷ terms)) (WrongCall c.args.form request_response_vocabulary terms) (WrongTerms c.args.form (first ∷ terms)) _ _
    c.from_residual-in_err-call-in-rr.ensures.1 c.in_err-call-in-rr.ensures
    (λ none some_command is_such. let call = only_requests c.args.form terms some_command (subst (λ t. IsCommandOf c.args.form (t ∷ terms) some_command) c.in-rr.is is_such) in none call.0 call.1)
    (λ w is. request_response terms (ap (λ t. t ∷ terms) c.in-rr.is) is)

pub returns-in_default : goal.returns-in_default
returns-in_default c =
    let first = c.args.first.now in
    let terms = terms_of c.args.others.now in
    let others : Each (λ word. first ≢ word) command_words = (c.in_default.not-list, (c.in_default.not-close, (c.in_default.not-event, (c.in_default.not-pubsub, (c.in_default.not-rr, tt))))) in
    (no_command_word c.args.form first terms others, no_command terms refl others)
