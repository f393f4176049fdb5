-- Which command terms can be, by the first of them.
use Rattle.std.proofs.Common.{◌≡◌, ◌≢◌, ℕ, List, [], ◌∷◌, codes, refl}
use Rattle.iceoryx2_access.specs.Run.{Each}
use Rattle.iceoryx2_builder.specs.declared.command.Call.{Call}
use Rattle.iceoryx2_builder.specs.declared.command.Command.{Command}
use Rattle.iceoryx2_builder.specs.declared.command.Command.TheVariants as command
use Rattle.iceoryx2_builder.specs.declared.command.Settings.{Settings}
use Rattle.iceoryx2_builder.specs.declared.command.Settings.TheVariants as settings
use Rattle.iceoryx2_builder.specs.Commands.{slot_count}
use Rattle.iceoryx2_event_builder.specs.declared.event.setting.EventSetter.{EventSetter}
use Rattle.iceoryx2_publish_subscribe_builder.specs.declared.publish_subscribe.setting.PublishSubscribeSetter.{PublishSubscribeSetter}
use Rattle.iceoryx2_request_response_builder.specs.declared.request_response.setting.RequestResponseSetter.{RequestResponseSetter}
use Rattle.negotiate_lines.specs.declared.leaf.Form.{Form}
use Rattle.negotiate_lines.specs.declared.line.NamedCall.{NamedCall}
use Rattle.negotiate_lines.specs.Commands.{IsCommandOf, IsNamedCallOf, IsCallOf, as_named}
use Rattle.negotiate_lines.specs.SettingTerms.{event_vocabulary, publish_subscribe_vocabulary, request_response_vocabulary}
use Rattle.negotiate_lines.specs.Terms.{IsNumber}
use Rattle.negotiate_lines.specs.Wrongs.{Begins, command_words}
use Rattle.negotiate_lines.proofs.Judging.{differ, same_first, same_others}

-- the pattern's word
call_word : Settings → List ℕ
call_word (settings.Event s) = codes "event"
call_word (settings.PublishSubscribe s) = codes "pubsub"
call_word (settings.RequestResponse s) = codes "rr"

module _ (form : Form) where
  call_first : (of : Settings) (first : List ℕ) (terms : List (List ℕ)) (call : Call) → IsCallOf form of (first ∷ terms) call → first ≡ call_word of
  unfolding call_word
  call_first (settings.Event s) first terms call is_such = same_first is_such.are
  call_first (settings.PublishSubscribe s) first terms call is_such = same_first is_such.are
  call_first (settings.RequestResponse s) first terms call is_such = same_first is_such.are

  call_is_no_list : (of : Settings) → codes "list" ≡ call_word of → ⊥
  unfolding call_word
  call_is_no_list (settings.Event s) e = differ (codes "list") (codes "event") refl refl e
  call_is_no_list (settings.PublishSubscribe s) e = differ (codes "list") (codes "pubsub") refl refl e
  call_is_no_list (settings.RequestResponse s) e = differ (codes "list") (codes "rr") refl refl e

  call_is_no_close : (of : Settings) → codes "close" ≡ call_word of → ⊥
  unfolding call_word
  call_is_no_close (settings.Event s) e = differ (codes "close") (codes "event") refl refl e
  call_is_no_close (settings.PublishSubscribe s) e = differ (codes "close") (codes "pubsub") refl refl e
  call_is_no_close (settings.RequestResponse s) e = differ (codes "close") (codes "rr") refl refl e

  -- behind `list` nothing stands
  pub only_list : (terms : List (List ℕ)) (c : Command) → IsCommandOf form (codes "list" ∷ terms) c → terms ≡ []
  only_list terms (command.Call call) is_such = absurd (call_is_no_list call.settings (call_first call.settings (codes "list") terms call is_such))
  only_list terms (command.Close slot) is_such = absurd (differ (codes "list") (codes "close") refl refl (same_first is_such.are))
  only_list terms command.List is_such = same_others is_such

  -- behind `close` a slot stands, and nothing else
  pub only_close : (terms : List (List ℕ)) (c : Command) → IsCommandOf form (codes "close" ∷ terms) c → (n : ℕ) × Begins (IsNumber slot_count) terms n []
  only_close terms (command.Call call) is_such = absurd (call_is_no_close call.settings (call_first call.settings (codes "close") terms call is_such))
  only_close terms (command.Close slot) is_such = (slot, (is_such.slot, same_others is_such.are, is_such.slot_is))
  only_close terms command.List is_such = absurd (differ (codes "close") (codes "list") refl refl (same_first is_such))

  -- behind a pattern's word a call of that pattern stands
  event_call : (of : Settings) (terms : List (List ℕ)) (call : Call) → IsCallOf form of (codes "event" ∷ terms) call
      → (named : NamedCall EventSetter) × IsNamedCallOf form event_vocabulary (codes "event" ∷ terms) named
  event_call (settings.Event s) terms call is_such = (as_named call s.items, is_such)
  event_call (settings.PublishSubscribe s) terms call is_such = absurd (differ (codes "event") (codes "pubsub") refl refl (same_first is_such.are))
  event_call (settings.RequestResponse s) terms call is_such = absurd (differ (codes "event") (codes "rr") refl refl (same_first is_such.are))

  sample_call : (of : Settings) (terms : List (List ℕ)) (call : Call) → IsCallOf form of (codes "pubsub" ∷ terms) call
      → (named : NamedCall PublishSubscribeSetter) × IsNamedCallOf form publish_subscribe_vocabulary (codes "pubsub" ∷ terms) named
  sample_call (settings.Event s) terms call is_such = absurd (differ (codes "pubsub") (codes "event") refl refl (same_first is_such.are))
  sample_call (settings.PublishSubscribe s) terms call is_such = (as_named call s.items, is_such)
  sample_call (settings.RequestResponse s) terms call is_such = absurd (differ (codes "pubsub") (codes "rr") refl refl (same_first is_such.are))

  request_call : (of : Settings) (terms : List (List ℕ)) (call : Call) → IsCallOf form of (codes "rr" ∷ terms) call
      → (named : NamedCall RequestResponseSetter) × IsNamedCallOf form request_response_vocabulary (codes "rr" ∷ terms) named
  request_call (settings.Event s) terms call is_such = absurd (differ (codes "rr") (codes "event") refl refl (same_first is_such.are))
  request_call (settings.PublishSubscribe s) terms call is_such = absurd (differ (codes "rr") (codes "pubsub") refl refl (same_first is_such.are))
  request_call (settings.RequestResponse s) terms call is_such = (as_named call s.items, is_such)

  pub only_event : (terms : List (List ℕ)) (c : Command) → IsCommandOf form (codes "event" ∷ terms) c
      → (named : NamedCall EventSetter) × IsNamedCallOf form event_vocabulary (codes "event" ∷ terms) named
  only_event terms (command.Call call) is_such = event_call call.settings terms call is_such
  only_event terms (command.Close slot) is_such = absurd (differ (codes "event") (codes "close") refl refl (same_first is_such.are))
  only_event terms command.List is_such = absurd (differ (codes "event") (codes "list") refl refl (same_first is_such))

  pub only_samples : (terms : List (List ℕ)) (c : Command) → IsCommandOf form (codes "pubsub" ∷ terms) c
      → (named : NamedCall PublishSubscribeSetter) × IsNamedCallOf form publish_subscribe_vocabulary (codes "pubsub" ∷ terms) named
  only_samples terms (command.Call call) is_such = sample_call call.settings terms call is_such
  only_samples terms (command.Close slot) is_such = absurd (differ (codes "pubsub") (codes "close") refl refl (same_first is_such.are))
  only_samples terms command.List is_such = absurd (differ (codes "pubsub") (codes "list") refl refl (same_first is_such))

  pub only_requests : (terms : List (List ℕ)) (c : Command) → IsCommandOf form (codes "rr" ∷ terms) c
      → (named : NamedCall RequestResponseSetter) × IsNamedCallOf form request_response_vocabulary (codes "rr" ∷ terms) named
  only_requests terms (command.Call call) is_such = request_call call.settings terms call is_such
  only_requests terms (command.Close slot) is_such = absurd (differ (codes "rr") (codes "close") refl refl (same_first is_such.are))
  only_requests terms command.List is_such = absurd (differ (codes "rr") (codes "list") refl refl (same_first is_such))

  -- no command begins with another word
  no_call_word : (of : Settings) (first : List ℕ) → Each (λ word. first ≢ word) command_words → first ≡ call_word of → ⊥
  unfolding call_word
  no_call_word (settings.Event s) first none e = none.1.1.0 e
  no_call_word (settings.PublishSubscribe s) first none e = none.1.1.1.0 e
  no_call_word (settings.RequestResponse s) first none e = none.1.1.1.1.0 e

  pub no_command_word : (first : List ℕ) (terms : List (List ℕ)) → Each (λ word. first ≢ word) command_words → (c : Command) → IsCommandOf form (first ∷ terms) c → ⊥
  no_command_word first terms none (command.Call call) is_such = no_call_word call.settings first none (call_first call.settings first terms call is_such)
  no_command_word first terms none (command.Close slot) is_such = none.1.0 (same_first is_such.are)
  no_command_word first terms none command.List is_such = none.0 (same_first is_such)
