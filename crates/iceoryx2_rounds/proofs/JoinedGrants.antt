-- What a call has been granted whose word joins two states of its storage.
use Rattle.std.proofs.Common.{◌≡◌, ◌∙◌, ℕ, Bool, true, List, Result, Ok, Err, IfOk, None, ap}
use Rattle.iceoryx2_description.specs.declared.description.ServiceHash.{ServiceHash}
use Rattle.iceoryx2_description.specs.Description.{Description}
use Rattle.iceoryx2_description.specs.declared.description.MessagingPattern.{MessagingPattern}
use Rattle.iceoryx2_access.specs.Registered.{Registered}
use Rattle.iceoryx2_access.specs.Letter.{Letter}
use Rattle.iceoryx2_access.specs.Run.{Joins, done}
use Rattle.iceoryx2_access.proofs.Run.{joins}
use Rattle.iceoryx2_rounds.specs.PatternRules.{PatternRules}
use Rattle.iceoryx2_rounds.specs.declared.caller.Caller.{Caller}
use Rattle.iceoryx2_rounds.specs.Creates.{IsCreateWord, description_of}
use Rattle.iceoryx2_rounds.specs.Opens.{IsOpenWord}
use Rattle.iceoryx2_rounds.specs.Prepared.{IsPrepared, prepared, unprepared}
use Rattle.iceoryx2_rounds.proofs.Carried.{created_carries, opened_carries}

second : {A B : Type 0} → A × B → B
second (a, b) = b

module _ {E C : Type 0} {m : PatternRules E C} {S : Type 0} {step : S → Letter → S → Type 0} {old new : S} where
  -- what a create registers is of a pattern that what it published is of
  pub created_of : (is_of : MessagingPattern → Bool) (caller : Caller) (answer : Result Registered C)
      → Joins step old (λ word. IsCreateWord m caller word answer) new
      → is_of (description_of m caller).pattern ≡ true → IfOk answer (λ r. is_of r.description.pattern ≡ true)
  created_of is_of caller (Ok r) joined published = ap (λ d. is_of d.pattern) (second (created_carries joined.is_word)) ∙ published
  created_of is_of caller (Err e) joined published = tt

  -- what an open registers is of a pattern that all that fits is of
  pub opened_of : (is_of : MessagingPattern → Bool) {node : ℕ} {hash : ServiceHash} (answer : Result Registered E)
      → Joins step old (λ word. IsOpenWord m node hash word answer) new
      → ((d : Description) → m.misfit d ≡ None → is_of d.pattern ≡ true) → IfOk answer (λ r. is_of r.description.pattern ≡ true)
  opened_of is_of (Ok r) joined fits = fits r.description (opened_carries joined.is_word).fits
  opened_of is_of (Err e) joined fits = tt

module _ {E : Type 0} {no_memory : E} {IsWord : List Letter → Result Registered E → Type 0} {S : Type 0} {step : S → Letter → S → Type 0} {old : S} where
  -- a call whose types are prepared goes along a word of it
  pub with_types : {new : S} {answer : Result Registered E} → Joins step old (λ word. IsWord word answer) new → Joins step old (λ word. IsPrepared no_memory IsWord word answer) new
  with_types joined = joins (prepared joined.is_word) joined.run

  -- and one whose types found no memory makes no access
  pub without_types : Joins step old (λ word. IsPrepared no_memory IsWord word (Err no_memory)) old
  without_types = joins unprepared done
