-- The answers of an addition whose key or value has no fitting length.
use Rattle.std.proofs.Common.{ℕ, List, Err, refl}
use Rattle.iceoryx2_attribute.specs.declared.attribute.AttributeError.TheVariants.{KeyLength, ValueLength}
use Rattle.iceoryx2_attribute.specs.Additions.{HasKeyLength, HasValueLength, AddsPair, AddsKey}
use Rattle.iceoryx2_attribute.specs.Attributes.{Pair, AreAttributes}
use Rattle.iceoryx2_attribute.specs.Requirements.{AreKeys}
use Rattle.iceoryx2_attribute.proofs.Pairs.{there_is_pair}
use Rattle.iceoryx2_attribute.proofs.Keys.{there_is_key}

module _ (old : List Pair) (p : Pair) where
  pub wrong_key : AreAttributes old → (HasKeyLength p.key → ⊥) → AddsPair old p (Err KeyLength) old
  wrong_key fits wrong = record {
    added = tt;
    there = λ is. let one = there_is_pair old p fits is in absurd (wrong (one.key.long, one.key.short));
    kept = refl;
    key_length = (λ _. wrong, λ _. refl);
    value_length = (λ e. cc, λ h. absurd (wrong h.0));
    too_many = (λ e. cc, λ h. absurd (wrong h.0));
  }

  pub wrong_value : AreAttributes old → HasKeyLength p.key → (HasValueLength p.value → ⊥) → AddsPair old p (Err ValueLength) old
  wrong_value fits key wrong = record {
    added = tt;
    there = λ is. let one = there_is_pair old p fits is in absurd (wrong one.value.short);
    kept = refl;
    key_length = (λ e. cc, λ h. absurd (h key));
    value_length = (λ _. (key, wrong), λ _. refl);
    too_many = (λ e. cc, λ h. absurd (wrong h.1));
  }

module _ (old : List (List ℕ)) (key : List ℕ) where
  pub wrong_required : AreKeys old → (HasKeyLength key → ⊥) → AddsKey old key (Err KeyLength) old
  wrong_required fits wrong = record {
    added = tt;
    there = λ is. let one = there_is_key old key fits is in absurd (wrong (one.long, one.short));
    kept = refl;
    key_length = (λ _. wrong, λ _. refl);
    value_length = λ e. cc;
    too_many = (λ e. cc, λ h. absurd (wrong h.0));
  }
