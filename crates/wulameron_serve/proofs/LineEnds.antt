-- What is offered is nothing, or ends as a line does.
use Rattle.std.proofs.Common.{◌≡◌, ◌⊎◌, inl, inr, ⊎_elim, ℕ, List, [], ◌∷◌, ◌++◌, Option, Some, None, codes, refl, sym, ap, subst, ◌∙◌, append_assoc, append-nil}
use Rattle.std.proofs.lemmas.Bool.{cond_both}
use Rattle.iceoryx2_attribute.specs.Attributes.{Pair}
use Rattle.iceoryx2_attribute.specs.Requirements.{Requirements, first_lacking}
use Rattle.iceoryx2_builder.specs.declared.command.Call.{Call}
use Rattle.iceoryx2_builder.specs.declared.command.Settings.{Settings}
use Rattle.iceoryx2_builder.specs.declared.command.Settings.TheVariants as setting
use Rattle.iceoryx2_description.specs.Description.{Description}
use Rattle.iceoryx2_description.specs.declared.description.MessagingPattern.{MessagingPattern}
use Rattle.iceoryx2_description.specs.declared.description.MessagingPattern.TheVariants as pattern
use Rattle.iceoryx2_errors.specs.Reasons.{reason_of}
use Rattle.iceoryx2_errors.specs.declared.refusal.Reason.{Reason}
use Rattle.iceoryx2_errors.specs.declared.refusal.Refusal.{Refusal}
use Rattle.iceoryx2_types.specs.Types.{Detail, Message}
use Rattle.explain_serve.specs.Attributes.{first_line, lacking_key_lines, pair_line, pair_lines}
use Rattle.explain_serve.specs.Messages.{asked_message, asked_messages, detail_text, message_lines, part_line}
use Rattle.explain_serve.specs.Offers.{offer_lines, setting_lines}
use Rattle.explain_serve.specs.Settings.{Compared, offer_line, required_lines, setting_line, value_text}
use Rattle.explain_serve.specs.Comparisons.{event_compared, publish_subscribe_compared, request_response_compared}
use Rattle.wulameron_serve.specs.declared.refused.Offer.{Offer}
use Rattle.wulameron_serve.specs.Refusals.{offered_lines}

abbrev IsEnded : List ℕ → Type 0
IsEnded text = (front : List ℕ) × (text ≡ front ++ codes "\n")

abbrev pub AreLines : List ℕ → Type 0
AreLines text = (text ≡ []) ⊎ IsEnded text

behind : (a b : List ℕ) → IsEnded b → IsEnded (a ++ b)
behind a b ended = (a ++ ended.0, ap (λ l. a ++ l) ended.1 ∙ sym (append_assoc a ended.0 (codes "\n")))

joined : (a b : List ℕ) → AreLines a → AreLines b → AreLines (a ++ b)
joined a b left right =
    ⊎_elim (λ none. subst AreLines (sym (ap (λ l. a ++ l) none ∙ append-nil a)) left) (λ ended. inr (behind a b ended)) right

-- ---- attributes

pair_ends : (word key : List ℕ) (p : Pair) → AreLines (pair_line word key p)
pair_ends word key p =
    cond_both _ _ _ AreLines
    (λ e. inr (behind (codes "  ") _ (behind word _ (behind (codes " attribute ") _ (behind key _ (behind (codes ":") _ (p.value, refl)))))))
    (λ e. inl refl)

pairs_end : (word key : List ℕ) (pairs : List Pair) → AreLines (pair_lines word key pairs)
pairs_end word key [] = inl refl
pairs_end word key (p ∷ pairs) =
    joined (pair_line word key p) (pair_lines word key pairs) (pair_ends word key p) (pairs_end word key pairs)

first_ends : (key : List ℕ) → AreLines (first_line key)
unfolding first_line
first_ends key = inr (behind (codes "  first lacking attribute: ") _ (key, refl))

lacking_ends : (required : Requirements) (offered : List Pair) (key : Option (List ℕ)) → AreLines (lacking_key_lines required offered key)
lacking_ends required offered None = inl refl
lacking_ends required offered (Some key) =
    joined (first_line key) _ (first_ends key)
    (joined (pair_lines (codes "required") key required.pairs) (pair_lines (codes "offered") key offered) (pairs_end (codes "required") key required.pairs) (pairs_end (codes "offered") key offered))

-- ---- settings and types

offer_ends : (name required offered : List ℕ) → IsEnded (offer_line name required offered)
offer_ends name required offered =
    behind (codes "  required ") _ (behind name _ (behind (codes " ") _ (behind required _ (behind (codes ", offered ") _ (offered, refl)))))

module _ {S X : Type 0} (compared : S → X → Option Compared) (there : X) (why : Reason) where
  setting_ends : (o : Option Compared) (later : List S) → AreLines (setting_line compared there why o later)
  setting_ends None later = inl refl
  setting_ends (Some c) later =
      cond_both _ _ _ AreLines (λ e. inr (offer_ends c.name (value_text c.required) (value_text c.offered))) (λ e. inl refl)

  required_end : (setters : List S) → AreLines (required_lines compared there why setters)
  required_end [] = inl refl
  required_end (setter ∷ later) =
      joined (setting_line compared there why (compared setter there) later) (required_lines compared there why later)
      (setting_ends (compared setter there) later) (required_end later)

part_ends : (name : List ℕ) (required offered : Detail) → AreLines (part_line name required offered)
unfolding part_line
part_ends name required offered = inr (offer_ends name (detail_text required) (detail_text offered))

message_ends : (user_header payload : List ℕ) (required offered : Message) → AreLines (message_lines user_header payload required offered)
unfolding message_lines
message_ends user_header payload required offered =
    joined (part_line (codes "header") required.header offered.header) _ (part_ends (codes "header") required.header offered.header)
    (joined (part_line user_header required.user_header offered.user_header) (part_line payload required.payload offered.payload)
    (part_ends user_header required.user_header offered.user_header) (part_ends payload required.payload offered.payload))

settings_end : (asked : Settings) (why : Reason) (there : MessagingPattern) → AreLines (setting_lines asked why there)
settings_end (setting.Event setters) why (pattern.Event there) = required_end event_compared there why setters.items
settings_end (setting.PublishSubscribe setters) why (pattern.PublishSubscribe there) =
    cond_both _ _ _ AreLines
    (λ e. message_ends (codes "user_header") (codes "payload") (asked_message setters.items) there.message_type_details)
    (λ e. required_end publish_subscribe_compared there why setters.items)
settings_end (setting.RequestResponse setters) why (pattern.RequestResponse there) =
    let asked = asked_messages setters.items in
    cond_both _ _ _ AreLines
    (λ e. joined (message_lines (codes "request_header") (codes "request_payload") asked.request there.request_message_type_details) _
    (message_ends (codes "request_header") (codes "request_payload") asked.request there.request_message_type_details)
    (message_ends (codes "response_header") (codes "response_payload") asked.response there.response_message_type_details))
    (λ e. required_end request_response_compared there why setters.items)
settings_end (setting.Event setters) why (pattern.PublishSubscribe there) = inl refl
settings_end (setting.Event setters) why (pattern.RequestResponse there) = inl refl
settings_end (setting.PublishSubscribe setters) why (pattern.Event there) = inl refl
settings_end (setting.PublishSubscribe setters) why (pattern.RequestResponse there) = inl refl
settings_end (setting.RequestResponse setters) why (pattern.Event there) = inl refl
settings_end (setting.RequestResponse setters) why (pattern.PublishSubscribe there) = inl refl

lines_end : (call : Call) (r : Refusal) (d : Description) → AreLines (offer_lines call r d)
lines_end call r d =
    cond_both _ _ _ AreLines (λ e. lacking_ends call.attributes d.attributes (first_lacking call.attributes d.attributes))
    (λ e. settings_end call.settings (reason_of r) d.pattern)

pub offered_end : (r : Refusal) (offer : Option Offer) → AreLines (offered_lines r offer)
offered_end r None = inl refl
offered_end r (Some offer) = lines_end offer.call r offer.existing
