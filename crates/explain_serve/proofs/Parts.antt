-- The line of a part of a message, written bit by bit, and texts that grow one after the other.
use Rattle.std.proofs.Common.{◌≡◌, ℕ, List, ◌++◌, Result, Ok, Err, OnOk, ap, ◌∙◌, append_assoc}
use Rattle.std.specs.Prelude.{codes}
use Rattle.std.specs.declared.alloc.AllocError.{AllocError}
use Rattle.iceoryx2_types.specs.Types.{Detail, Message}
use Rattle.iceoryx2_description.specs.declared.request_response.StaticConfig.{StaticConfig as RequestSettings}
use Rattle.iceoryx2_rounds.specs.Requested.{requested_message}
use Rattle.iceoryx2_request_response_builder.specs.Builder.{no_message_types, request_header, response_header}
use Rattle.iceoryx2_request_response_builder.specs.declared.request_response.requested.RequestedMessages.{RequestedMessages}
use Rattle.iceoryx2_request_response_builder.specs.declared.request_response.setting.RequestResponseSetter.{RequestResponseSetter}
use Rattle.iceoryx2_session.specs.Markers.{payload_marker, user_header_marker}
use Rattle.explain_serve.specs.Messages.{asked_messages, detail_text, message_lines, part_line, request_builder_after}
use Rattle.explain_serve.specs.Offers.{messages_lines}

in_a_row : (old p n s r m o e : List ℕ) → ((((old ++ (p ++ (n ++ s))) ++ r) ++ m) ++ o) ++ e ≡ old ++ (p ++ (n ++ (s ++ (r ++ (m ++ (o ++ e))))))
in_a_row old p n s r m o e =
    append_assoc (((old ++ (p ++ (n ++ s))) ++ r) ++ m) o e
    ∙ append_assoc ((old ++ (p ++ (n ++ s))) ++ r) m (o ++ e)
    ∙ append_assoc (old ++ (p ++ (n ++ s))) r (m ++ (o ++ e))
    ∙ append_assoc old (p ++ (n ++ s)) (r ++ (m ++ (o ++ e)))
    ∙ ap (λ l. old ++ l) (append_assoc p (n ++ s) (r ++ (m ++ (o ++ e))) ∙ ap (λ l. p ++ l) (append_assoc n s (r ++ (m ++ (o ++ e)))))

pub part_described : (name : List ℕ) (required offered : Detail) (old first second third fourth new : List ℕ)
    → first ≡ old ++ (codes "  required " ++ (name ++ codes " ")) → second ≡ first ++ detail_text required → third ≡ second ++ codes ", offered "
    → fourth ≡ third ++ detail_text offered → (done : Result (Unit {0}) AllocError) → OnOk done (new ≡ fourth ++ codes "\n")
    → OnOk done (new ≡ old ++ part_line name required offered)
unfolding part_line
part_described name required offered old first second third fourth new a b c d (Ok done) e =
    e ∙ ap (λ l. l ++ codes "\n") (d ∙ ap (λ l. l ++ detail_text offered) (c ∙ ap (λ l. l ++ codes ", offered ") (b ∙ ap (λ l. l ++ detail_text required) a)))
    ∙ in_a_row old (codes "  required ") name (codes " ") (detail_text required) (codes ", offered ") (detail_text offered) (codes "\n")
part_described name required offered old first second third fourth new a b c d (Err error) e = tt

pub both_described : (one other old mid new : List ℕ) → mid ≡ old ++ one → (done : Result (Unit {0}) AllocError) → OnOk done (new ≡ mid ++ other) → OnOk done (new ≡ old ++ (one ++ other))
both_described one other old mid new a (Ok done) b = b ∙ ap (λ l. l ++ other) a ∙ append_assoc old one other
both_described one other old mid new a (Err error) b = tt

-- the parts of requests and of responses
pub messages_described : (setters : List RequestResponseSetter) (there : RequestSettings) (types : RequestedMessages) (request response : Message)
    (old mid new : List ℕ) → types ≡ (request_builder_after no_message_types setters).types
    → request ≡ requested_message request_header payload_marker user_header_marker types.request → response ≡ requested_message response_header payload_marker user_header_marker types.response
    → mid ≡ old ++ message_lines (codes "request_header") (codes "request_payload") request there.request_message_type_details
    → (done : Result (Unit {0}) AllocError) → OnOk done (new ≡ mid ++ message_lines (codes "response_header") (codes "response_payload") response there.response_message_type_details)
    → OnOk done (new ≡ old ++ messages_lines (asked_messages setters) there)
messages_described setters there types request response old mid new are m n shown (Ok done) then =
    let asked = asked_messages setters in
    let first : request ≡ asked.request =
    m ∙ ap (requested_message request_header payload_marker user_header_marker) (ap (λ (t : RequestedMessages). t.request) are) in
    let second : response ≡ asked.response =
    n ∙ ap (requested_message response_header payload_marker user_header_marker) (ap (λ (t : RequestedMessages). t.response) are) in
    both_described (message_lines (codes "request_header") (codes "request_payload") asked.request there.request_message_type_details)
    (message_lines (codes "response_header") (codes "response_payload") asked.response there.response_message_type_details) old mid new
    (shown ∙ ap (λ (x : Message). old ++ message_lines (codes "request_header") (codes "request_payload") x there.request_message_type_details) first) (Ok done)
    (then ∙ ap (λ (x : Message). mid ++ message_lines (codes "response_header") (codes "response_payload") x there.response_message_type_details) second)
messages_described setters there types request response old mid new are m n shown (Err error) then = tt
