-- What an addition answers, and what it leaves. Out of memory may only stand in place of an item that is
-- put in, for which each test has passed.
use Rattle.std.specs.Prelude.{ℕ, ◌≡◌, ◌≤◌, ◌↔◌, List, length}
use Rattle.std.specs.Prelude.{false, IsTrue, OnOk, OnErr, Result, Ok, Err}
use Rattle.iceoryx2_attribute.specs.declared.attribute.TheConstants.{MIN_KEY_LENGTH, MAX_KEY_LENGTH}
use Rattle.iceoryx2_attribute.specs.declared.attribute.TheConstants.{MAX_VALUE_LENGTH}
use Rattle.iceoryx2_attribute.specs.declared.attribute.TheConstants.{MAX_ATTRIBUTES, MAX_REQUIRED_KEYS}
use Rattle.iceoryx2_attribute.specs.declared.attribute.AttributeError.{AttributeError}
use Rattle.iceoryx2_attribute.specs.declared.attribute.AttributeError.TheVariants.{KeyLength, ValueLength}
use Rattle.iceoryx2_attribute.specs.declared.attribute.AttributeError.TheVariants.{TooMany}
use Rattle.iceoryx2_attribute.specs.Attributes.{Pair, has_pair, with_pair}
use Rattle.iceoryx2_attribute.specs.Requirements.{lists_key, with_key}

abbrev pub HasKeyLength : List ℕ → Type 0
HasKeyLength key = (MIN_KEY_LENGTH ≤ length key) × (length key ≤ MAX_KEY_LENGTH)

abbrev pub HasValueLength : List ℕ → Type 0
HasValueLength value = length value ≤ MAX_VALUE_LENGTH

abbrev pub Answer : Type 0
Answer = Result (Unit {0}) AttributeError

-- a pair, put among pairs
pub record AddsPair (old : List Pair) (p : Pair) (result : Answer) (new : List Pair) : Type 0 where
  -- it is in its place
  pub added : OnOk result (new ≡ with_pair old p)
  -- a pair that is there is taken, and nothing changes
  pub there : IsTrue (has_pair old p) → (result ≡ Ok tt) × (new ≡ old)
  -- a refusal changes nothing
  pub kept : OnErr result (new ≡ old)
  -- each refusal comes where its test fails and the tests before it pass
  pub key_length : (result ≡ Err KeyLength) ↔ (HasKeyLength p.key → ⊥)
  pub value_length : (result ≡ Err ValueLength) ↔ (HasKeyLength p.key × (HasValueLength p.value → ⊥))
  pub too_many : (result ≡ Err TooMany)
      ↔ (HasKeyLength p.key × HasValueLength p.value × (has_pair old p ≡ false)
      × (MAX_ATTRIBUTES ≤ length old))

abbrev pub Keys : Type 0
Keys = List (List ℕ)

-- a key, put among required keys
pub record AddsKey (old : Keys) (key : List ℕ) (result : Answer) (new : Keys) : Type 0 where
  -- it is in its place
  pub added : OnOk result (new ≡ with_key old key)
  -- a key that is there is taken, and nothing changes
  pub there : IsTrue (lists_key old key) → (result ≡ Ok tt) × (new ≡ old)
  -- a refusal changes nothing
  pub kept : OnErr result (new ≡ old)
  -- each refusal comes where its test fails and the tests before it pass
  pub key_length : (result ≡ Err KeyLength) ↔ (HasKeyLength key → ⊥)
  pub value_length : result ≡ Err ValueLength → ⊥
  pub too_many : (result ≡ Err TooMany)
      ↔ (HasKeyLength key × (lists_key old key ≡ false) × (MAX_REQUIRED_KEYS ≤ length old))
