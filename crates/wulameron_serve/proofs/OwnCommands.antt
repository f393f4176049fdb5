-- A line of which the third term is `-` is no command, and how one is answered.
use Rattle.std.proofs.Common.{◌≡◌, ℕ, ◌^◌, Bool, true, false, List, [], ◌∷◌, ◌++◌, arith, decimal, sym, subst, ◌∙◌}
use Rattle.std.specs.Prelude.{Result, Ok, Err, IfOk}
use Rattle.iceoryx2_builder.specs.declared.command.Call.{Call}
use Rattle.iceoryx2_builder.specs.declared.command.Command.{Command}
use Rattle.iceoryx2_builder.specs.declared.command.Command.TheVariants as command
use Rattle.iceoryx2_builder.specs.declared.command.Settings.{Settings}
use Rattle.iceoryx2_builder.specs.declared.command.Settings.TheVariants as settings
use Rattle.negotiate_lines.specs.declared.leaf.Form.{Form}
use Rattle.negotiate_lines.specs.declared.leaf.Form.TheVariants as form
use Rattle.negotiate_lines.specs.Commands.{IsCallOf, IsCommandOf, IsNamedCallOf, as_named}
use Rattle.negotiate_lines.specs.Lines.{IsNoCommand}
use Rattle.negotiate_lines.specs.SettingTerms.{event_vocabulary, publish_subscribe_vocabulary, request_response_vocabulary}
use Rattle.negotiate_lines.specs.Terms.{IsNumber, terms_of}
use Rattle.negotiate_lines.specs.Vocabulary.{Vocabulary}
use Rattle.negotiate_lines.proofs.Judging.{same_first, same_others}
use Rattle.negotiate_serve.specs.Served.{GrowsByLine, IsAnswerTo}
use Rattle.negotiate_serve.specs.Transcripts.{AnsweringLines}
use Rattle.wulameron_serve.specs.Own.{AnswersNamed, IsOwnAt, other, own}
use Rattle.wulameron_serve.proofs.OwnTerms.{own_terms}

-- `-` is no number
no_number : (limit n : ℕ) → IsNumber limit (45 ∷ []) n → ⊥
no_number limit n is = omega (arith, is.numeral.1.0)

module _ (how : Form) (first second : List ℕ) (more : List (List ℕ)) where
  no_named : {S : Type 0} (v : Vocabulary S) (call : Call) (setters : List S) → IsNamedCallOf how v (first ∷ (second ∷ ((45 ∷ []) ∷ more))) (as_named call setters) → ⊥
  no_named v call setters is = no_number (2 ^ 64) call.node (subst (λ (t : List ℕ). IsNumber (2 ^ 64) t call.node) (sym (same_first (same_others (same_others is.are)))) is.node_is)

  no_call : (of : Settings) (call : Call) → IsCallOf how of (first ∷ (second ∷ ((45 ∷ []) ∷ more))) call → ⊥
  no_call (settings.Event s) call is = no_named event_vocabulary call s.items is
  no_call (settings.PublishSubscribe s) call is = no_named publish_subscribe_vocabulary call s.items is
  no_call (settings.RequestResponse s) call is = no_named request_response_vocabulary call s.items is

  no_command : (c : Command) → IsCommandOf how (first ∷ (second ∷ ((45 ∷ []) ∷ more))) c → ⊥
  no_command (command.Call call) is = no_call call.settings call is
  no_command (command.Close slot) is = cc (same_others (same_others is.are))
  no_command command.List is = cc (same_others is)

own_no_command : (line before behind : List ℕ) → IsOwnAt line before behind → IsNoCommand line
own_no_command line before behind at = λ utf8.
    let terms = own_terms line before behind at in
    (λ none. cc (sym terms.2 ∙ none), λ c is. no_command form.Plain terms.0 terms.1 (terms_of behind) c (subst (λ (ts : List (List ℕ)). IsCommandOf form.Plain ts c) terms.2 is))

module _ {M : Type 0} (node : M → ℕ) (Answers : AnsweringLines M) (m n : M) (number : ℕ) (line : List ℕ) where
  answered_own : (goes_on : Bool) (before behind output : List ℕ) → IsOwnAt line before behind → IsAnswerTo Answers goes_on m number (before ++ (decimal (node m) ++ behind)) output n
      → IsAnswerTo (AnswersNamed node Answers) goes_on m number line output n
  answered_own true before behind output at is = (_, own before behind at, is)
  answered_own false before behind output at is = (own_no_command line before behind at, is.1)

  answered_other : (goes_on : Bool) (output : List ℕ) → ((before behind : List ℕ) → IsOwnAt line before behind → ⊥) → IsAnswerTo Answers goes_on m number line output n
      → IsAnswerTo (AnswersNamed node Answers) goes_on m number line output n
  answered_other true output none is = (line, other none, is)
  answered_other false output none is = is

  -- It grows by what is written of the line in which the node is named.
  pub grows_own : {E : Type 0} (done : Result Bool E) (before behind named old new : List ℕ) → IsOwnAt line before behind → named ≡ before ++ (decimal (node m) ++ behind)
      → IfOk done (λ goes_on. GrowsByLine Answers goes_on m number named old new n) → IfOk done (λ goes_on. GrowsByLine (AnswersNamed node Answers) goes_on m number line old new n)
  grows_own (Ok goes_on) before behind named old new at same grows = record {
    output = grows.output;
    is_answer = answered_own goes_on before behind grows.output at (subst (λ (t : List ℕ). IsAnswerTo Answers goes_on m number t grows.output n) same grows.is_answer);
    grown = grows.grown;
  }
  grows_own (Err e) before behind named old new at same grows = tt

  -- And by what is written of any other line.
  pub grows_other : {E : Type 0} (done : Result Bool E) (old new : List ℕ) → ((before behind : List ℕ) → IsOwnAt line before behind → ⊥)
      → IfOk done (λ goes_on. GrowsByLine Answers goes_on m number line old new n) → IfOk done (λ goes_on. GrowsByLine (AnswersNamed node Answers) goes_on m number line old new n)
  grows_other (Ok goes_on) old new none grows = record { output = grows.output; is_answer = answered_other goes_on grows.output none grows.is_answer; grown = grows.grown }
  grows_other (Err e) old new none grows = tt
