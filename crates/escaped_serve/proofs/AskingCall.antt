-- What is written is a call that asks for the same.
use Rattle.std.proofs.Common.{◌≡◌, ℕ, ◌<◌, ◌^◌, List, [], ◌∷◌, ◌++◌, length, All, Ok, codes, decimal, refl, sym, subst, ◌∙◌, Vec, arith}
use Rattle.std.specs.Global.{Global}
use Rattle.std.proofs.lemmas.Str.{IsUtf8-from_is_utf8}
use Rattle.iceoryx2_access.specs.Run.{Each}
use Rattle.iceoryx2_access.proofs.Run.{both, each_append}
use Rattle.iceoryx2_attribute.specs.Attributes.{Pair}
use Rattle.iceoryx2_description.specs.Span.{zero_span}
use Rattle.iceoryx2_description.specs.Description.{Description, IsDescription, IsPattern, IsEvent, IsPublishSubscribe, IsRequestResponse}
use Rattle.iceoryx2_description.specs.declared.description.MessagingPattern.{MessagingPattern}
use Rattle.iceoryx2_description.specs.declared.description.MessagingPattern.TheVariants as pattern
use Rattle.iceoryx2_description.specs.declared.event.StaticConfig.{StaticConfig as EventConfig}
use Rattle.iceoryx2_description.specs.declared.publish_subscribe.StaticConfig.{StaticConfig as SampleConfig}
use Rattle.iceoryx2_description.specs.declared.request_response.StaticConfig.{StaticConfig as RequestConfig}
use Rattle.iceoryx2_builder.specs.declared.command.Call.{Call}
use Rattle.iceoryx2_builder.specs.declared.command.Command.{Command}
use Rattle.iceoryx2_builder.specs.declared.command.Command.TheVariants as command
use Rattle.iceoryx2_builder.specs.declared.command.How.TheVariants as how
use Rattle.iceoryx2_builder.specs.declared.command.Settings.{Settings}
use Rattle.iceoryx2_builder.specs.declared.command.Settings.TheVariants as settings
use Rattle.iceoryx2_builder.specs.Commands.{slot_count}
use Rattle.negotiate_lines.specs.declared.leaf.Form.TheVariants as form
use Rattle.negotiate_lines.specs.declared.line.Line.{Line}
use Rattle.negotiate_lines.specs.declared.line.Line.TheVariants as line
use Rattle.negotiate_lines.specs.Leaves.{leaf_of}
use Rattle.negotiate_lines.specs.Terms.{terms_of}
use Rattle.negotiate_lines.specs.Vocabulary.{Vocabulary}
use Rattle.negotiate_lines.specs.CallTerms.{no_arguments}
use Rattle.negotiate_lines.specs.Commands.{IsCallOf, IsCommandOf, IsNamedCallOf, admitted_of, as_named}
use Rattle.negotiate_lines.specs.SettingTerms.{event_vocabulary, publish_subscribe_vocabulary, request_response_vocabulary}
use Rattle.negotiate_lines.specs.Lines.{IsLineIn}
use Rattle.escaped_serve.specs.Asking.{Asks, AsksFor, IsAskedAgain, IsPrintable, Publishes, Setting, asking, event_settings, other_words, pair_words, pattern_word, request_settings, sample_settings, setters_of, setting_words, terms_asking, value_text}
use Rattle.escaped_serve.proofs.AskingGraphic.{graphic, graphic_all, leaf_graphic, number_graphic, pair_graphic, term_graphic, value_graphic}
use Rattle.escaped_serve.proofs.AskingLine.{IsWord, line_printable, terms_apart, text_from_printable}
use Rattle.escaped_serve.proofs.AskingPairs.{pairs_taken}
use Rattle.escaped_serve.proofs.AskingSettings.{IsKnown, events_known, events_published, given, requests_known, requests_published_again, samples_known, samples_published_again, settings_taken}
use Rattle.escaped_serve.proofs.AskingValues.{natural_shown, number_shown}
use Rattle.negotiate_lines.proofs.Judging.{differ, not_empty, same_first}
use Rattle.negotiate_lines.proofs.LeavesBack.{back}
use Rattle.escaped_serve.proofs.OneCall.{SameCall, one_call, same_itself}

-- ---- words

settings_are_words : {S : Type 0} (v : Vocabulary S) (settings : List (Setting S)) → Each (IsKnown v) settings → Each IsWord (terms_asking settings)
settings_are_words v [] known = tt
settings_are_words v (s ∷ settings) known =
    (term_graphic s.name (value_text s.takes s.value) known.0.word (value_graphic s.takes s.value known.0.value), settings_are_words v settings known.1)

pairs_are_words : (pairs : List Pair) → Each IsWord (pair_words pairs)
pairs_are_words [] = tt
pairs_are_words (p ∷ pairs) = (pair_graphic p, pairs_are_words pairs)

pattern_is_word : (p : MessagingPattern) → IsWord (pattern_word p)
unfolding graphic graphic_all
pattern_is_word (pattern.Event s) = refl
pattern_is_word (pattern.PublishSubscribe s) = refl
pattern_is_word (pattern.RequestResponse s) = refl

pattern_settings_are_words : (p : MessagingPattern) → IsPattern p → Each IsWord (setting_words p)
pattern_settings_are_words (pattern.Event s) is = settings_are_words event_vocabulary (event_settings s) (events_known s is)
pattern_settings_are_words (pattern.PublishSubscribe s) is = settings_are_words publish_subscribe_vocabulary (sample_settings s) (samples_known s is)
pattern_settings_are_words (pattern.RequestResponse s) is = settings_are_words request_response_vocabulary (request_settings s) (requests_known s is)

create_is_word : IsWord (codes "create")
unfolding graphic graphic_all
create_is_word = refl

-- these in the block of another vector
abbrev vec_of : {X : Type 0} → Vec ℕ Global → (items : List X) → length items < 2 ^ 63 → Vec X Global
vec_of block items small = record {
  ptr = block.ptr;
  len = length items;
  cap = length items;
  alloc = block.alloc;
  items = items;
  ok = (refl, omega arith);
  small = small;
}

module _ (node slot : ℕ) (d : Description) (small_node : node < 2 ^ 64) (small_slot : slot < slot_count) (is : IsDescription d) where
  words_are : Each IsWord (other_words node slot d)
  words_are = (
    create_is_word,
    (
      number_graphic node small_node,
      (
        number_graphic slot (omega (arith, small_slot)),
        (
          leaf_graphic d.name,
          each_append IsWord (setting_words d.pattern) (pair_words d.attributes) (pattern_settings_are_words d.pattern is.pattern) (pairs_are_words d.attributes),
        ),
      ),
    ),
  )

  terms_are : terms_of (asking node slot d) ≡ pattern_word d.pattern ∷ other_words node slot d
  terms_are = terms_apart (pattern_word d.pattern) (other_words node slot d) (pattern_is_word d.pattern) words_are

  pub one_line : All IsPrintable (asking node slot d)
  one_line = line_printable (pattern_word d.pattern) (other_words node slot d) (pattern_is_word d.pattern) words_are

  -- ---- the call

  abbrev words : List (List ℕ) → List (List ℕ)
  words settings = codes "create" ∷ decimal node ∷ decimal slot ∷ leaf_of d.name ∷ (settings ++ pair_words d.attributes)

  abbrev call_of : Settings → Call
  call_of setters = record {
    how = how.Create;
    node = node;
    slot = slot;
    name = d.name;
    settings = setters;
    attributes = record { pairs = d.attributes; keys = [] };
    now = Ok zero_span;
  }

  named_is : {S : Type 0} (v : Vocabulary S) (of : Settings) (settings : List (Setting S)) → Each (IsKnown v) settings
      → IsNamedCallOf form.Escaped v (v.pattern ∷ words (terms_asking settings)) (as_named (call_of of) (setters_of settings))
  named_is v of settings known = record {
    node = decimal node;
    slot = decimal slot;
    name = leaf_of d.name;
    others = terms_asking settings ++ pair_words d.attributes;
    are = refl;
    node_is = natural_shown node small_node;
    slot_is = number_shown slot_count slot small_slot (omega arith);
    text_is = back d.name (IsUtf8-from_is_utf8 d.name is.name.utf8);
    name_is = is.name;
    taken =
        both (settings_taken v (admitted_of v.has_clock how.Create) no_arguments settings known)
        (pairs_taken v (admitted_of v.has_clock how.Create) (given no_arguments (setters_of settings)) d.attributes is.attributes);
  }

  abbrev with_pattern : MessagingPattern → Description
  with_pattern p = record d { pattern = p }

  asks : {S : Type 0} (p : MessagingPattern) (call : Call) (of : Settings) (setters others : List S) → SameCall call (call_of of) setters others
      → Publishes p call.settings → AsksFor node slot (with_pattern p) call
  asks p call of setters others same settings = record {
    how = same.how;
    node_is = same.node;
    slot_is = same.slot;
    name = same.name;
    attributes = same.attributes;
    now_is = same.now;
    settings = settings;
  }

  -- ---- there is such a call

  again_of : Vec ℕ Global → (p : MessagingPattern) → IsPattern p
      → (call : Call) × IsCommandOf form.Escaped (pattern_word p ∷ words (setting_words p)) (command.Call call) × AsksFor node slot (with_pattern p) call
  again_of block (pattern.Event s) within =
      let setters = setters_of (event_settings s) in
      let of = settings.Event (vec_of block setters (omega arith)) in (
        call_of of,
        named_is event_vocabulary of (event_settings s) (events_known s within),
        asks (pattern.Event s) (call_of of) of setters setters (same_itself (call_of of) setters) (events_published s setters refl),
      )
  again_of block (pattern.PublishSubscribe s) within =
      let setters = setters_of (sample_settings s) in
      let of = settings.PublishSubscribe (vec_of block setters (omega arith)) in (
        call_of of,
        named_is publish_subscribe_vocabulary of (sample_settings s) (samples_known s within),
        asks (pattern.PublishSubscribe s) (call_of of) of setters setters (same_itself (call_of of) setters) (samples_published_again s setters refl),
      )
  again_of block (pattern.RequestResponse s) within =
      let setters = setters_of (request_settings s) in
      let of = settings.RequestResponse (vec_of block setters (omega arith)) in (
        call_of of,
        named_is request_response_vocabulary of (request_settings s) (requests_known s within),
        asks (pattern.RequestResponse s) (call_of of) of setters setters (same_itself (call_of of) setters) (requests_published_again s setters refl),
      )

  pub again : Vec ℕ Global → IsAskedAgain node slot d
  again block =
      let found = again_of block d.pattern is.pattern in (
        found.0,
        (
          text_from_printable (asking node slot d) one_line,
          subst (λ (ts : List (List ℕ)). IsCommandOf form.Escaped ts (command.Call found.0)) (sym terms_are) found.1,
        ),
        found.2,
      )

  -- ---- there is no other

  abbrev IsAsking : MessagingPattern → Command → Type 0
  IsAsking p c = Asks node slot (with_pattern p) (line.Command c)

  events_only : (s : EventConfig) → IsEvent s → (of : Settings) (call : Call) → call.settings ≡ of
      → IsCallOf form.Escaped of (codes "event" ∷ words (terms_asking (event_settings s))) call → AsksFor node slot (with_pattern (pattern.Event s)) call
  events_only s within (settings.Event setters) call e such =
      let others = setters_of (event_settings s) in
      let terms = codes "event" ∷ words (terms_asking (event_settings s)) in
      let of = settings.Event setters in
      let same = one_call form.Escaped event_vocabulary terms call (call_of of) setters.items others such (named_is event_vocabulary of (event_settings s) (events_known s within)) in
      asks (pattern.Event s) call of setters.items others same
      (subst (λ (x : Settings). Publishes (pattern.Event s) x) (sym e)
      (events_published s setters.items same.settings))
  events_only s within (settings.PublishSubscribe setters) call e such = absurd (differ (codes "event") (codes "pubsub") refl refl (same_first such.are))
  events_only s within (settings.RequestResponse setters) call e such = absurd (differ (codes "event") (codes "rr") refl refl (same_first such.are))

  samples_only : (s : SampleConfig) → IsPublishSubscribe s → (of : Settings) (call : Call) → call.settings ≡ of
      → IsCallOf form.Escaped of (codes "pubsub" ∷ words (terms_asking (sample_settings s))) call
      → AsksFor node slot (with_pattern (pattern.PublishSubscribe s)) call
  samples_only s within (settings.PublishSubscribe setters) call e such =
      let others = setters_of (sample_settings s) in
      let terms = codes "pubsub" ∷ words (terms_asking (sample_settings s)) in
      let of = settings.PublishSubscribe setters in
      let same = one_call form.Escaped publish_subscribe_vocabulary terms call (call_of of) setters.items others such (named_is publish_subscribe_vocabulary of (sample_settings s) (samples_known s within)) in
      asks (pattern.PublishSubscribe s) call of setters.items others same
      (subst (λ (x : Settings). Publishes (pattern.PublishSubscribe s) x) (sym e)
      (samples_published_again s setters.items same.settings))
  samples_only s within (settings.Event setters) call e such = absurd (differ (codes "pubsub") (codes "event") refl refl (same_first such.are))
  samples_only s within (settings.RequestResponse setters) call e such = absurd (differ (codes "pubsub") (codes "rr") refl refl (same_first such.are))

  requests_only : (s : RequestConfig) → IsRequestResponse s → (of : Settings) (call : Call) → call.settings ≡ of
      → IsCallOf form.Escaped of (codes "rr" ∷ words (terms_asking (request_settings s))) call
      → AsksFor node slot (with_pattern (pattern.RequestResponse s)) call
  requests_only s within (settings.RequestResponse setters) call e such =
      let others = setters_of (request_settings s) in
      let terms = codes "rr" ∷ words (terms_asking (request_settings s)) in
      let of = settings.RequestResponse setters in
      let same = one_call form.Escaped request_response_vocabulary terms call (call_of of) setters.items others such (named_is request_response_vocabulary of (request_settings s) (requests_known s within)) in
      asks (pattern.RequestResponse s) call of setters.items others same
      (subst (λ (x : Settings). Publishes (pattern.RequestResponse s) x) (sym e)
      (requests_published_again s setters.items same.settings))
  requests_only s within (settings.Event setters) call e such = absurd (differ (codes "rr") (codes "event") refl refl (same_first such.are))
  requests_only s within (settings.PublishSubscribe setters) call e such = absurd (differ (codes "rr") (codes "pubsub") refl refl (same_first such.are))

  -- no pattern's word is another command's
  no_close : (p : MessagingPattern) → pattern_word p ≡ codes "close" → ⊥
  no_close (pattern.Event s) e = differ (codes "event") (codes "close") refl refl e
  no_close (pattern.PublishSubscribe s) e = differ (codes "pubsub") (codes "close") refl refl e
  no_close (pattern.RequestResponse s) e = differ (codes "rr") (codes "close") refl refl e

  no_list : (p : MessagingPattern) → pattern_word p ≡ codes "list" → ⊥
  no_list (pattern.Event s) e = differ (codes "event") (codes "list") refl refl e
  no_list (pattern.PublishSubscribe s) e = differ (codes "pubsub") (codes "list") refl refl e
  no_list (pattern.RequestResponse s) e = differ (codes "rr") (codes "list") refl refl e

  call_only : (p : MessagingPattern) → IsPattern p → (call : Call)
      → IsCallOf form.Escaped call.settings (pattern_word p ∷ words (setting_words p)) call → AsksFor node slot (with_pattern p) call
  call_only (pattern.Event s) within call such = events_only s within call.settings call refl such
  call_only (pattern.PublishSubscribe s) within call such = samples_only s within call.settings call refl such
  call_only (pattern.RequestResponse s) within call such = requests_only s within call.settings call refl such

  command_only : (p : MessagingPattern) → IsPattern p → (c : Command) → IsCommandOf form.Escaped (pattern_word p ∷ words (setting_words p)) c → IsAsking p c
  command_only p within (command.Call call) such = call_only p within call such
  command_only p within (command.Close closed) such = absurd (no_close p (same_first such.are))
  command_only p within command.List such = absurd (no_list p (same_first such))

  pub only : Vec ℕ Global → (l : Line) → IsLineIn form.Escaped (asking node slot d) l → Asks node slot d l
  only block line.Blank is_such = absurd (not_empty (sym is_such.1 ∙ terms_are))
  only block (line.Command c) is_such =
      command_only d.pattern is.pattern c (subst (λ (ts : List (List ℕ)). IsCommandOf form.Escaped ts c) terms_are is_such.1)
  only block (line.NotACommand w) is_such =
      let found = again block in
      absurd ((is_such.0 found.1.0).1 (command.Call found.0) found.1.1)
