-- What is required of attributes.
use Rattle.std.specs.Prelude.{ℕ, ◌≤◌, Bool, not, IsTrue, Option, Some, None}
use Rattle.std.specs.Prelude.{List, [], length, All, bytes_eq}
use Rattle.std.specs.List.{list_any, find}
use Rattle.std.specs.Ordering.{is_lt}
use Rattle.iceoryx2_attribute.specs.declared.attribute.TheConstants.{MAX_REQUIRED_KEYS}
use Rattle.iceoryx2_attribute.specs.Ascending.{ascends_by, with_item}
use Rattle.iceoryx2_attribute.specs.Attributes.{Pair, text_cmp, AreAttributes, IsKey, has_pair, has_key}

-- pairs that have to be there, and keys that have to be there with any value
pub record Requirements : Type 0 where
  pub pairs : List Pair
  pub keys : List (List ℕ)

abbrev pub no_requirements : Requirements
no_requirements = record { pairs = []; keys = [] }

-- ---- their limits

unfoldable pub key_before : List ℕ → List ℕ → Bool
key_before s t = is_lt (text_cmp s t)

pub record AreKeys (keys : List (List ℕ)) : Type 0 where
  pub few : length keys ≤ MAX_REQUIRED_KEYS
  pub each : All IsKey keys
  pub ascending : IsTrue (ascends_by key_before keys)

pub record AreRequirements (r : Requirements) : Type 0 where
  pub pairs : AreAttributes r.pairs
  pub keys : AreKeys r.keys

-- ---- required keys

unfoldable pub lists_key : List (List ℕ) → List ℕ → Bool
lists_key keys key = list_any (λ k. bytes_eq k key) keys

-- the keys with this one in its place
abbrev pub with_key : List (List ℕ) → List ℕ → List (List ℕ)
with_key keys key = with_item key_before keys key

-- ---- what a service's attributes lack

-- the first required pair that they lack
unfoldable pub lacking_pair : List Pair → List Pair → Option Pair
lacking_pair required ps = find (λ p. not (has_pair ps p)) required

-- the first required key that they have no value for
unfoldable pub lacking_key : List (List ℕ) → List Pair → Option (List ℕ)
lacking_key required ps = find (λ key. not (has_key ps key)) required

abbrev pub pair_or_key : Option Pair → Option (List ℕ) → Option (List ℕ)
pair_or_key None key = key
pair_or_key (Some p) key = Some p.key

-- the key of the first required pair that they lack, or else the first required key that they lack
unfoldable pub first_lacking : Requirements → List Pair → Option (List ℕ)
first_lacking r ps = pair_or_key (lacking_pair r.pairs ps) (lacking_key r.keys ps)

-- each required pair is there, and each required key has a value
abbrev pub AreMetBy : Requirements → List Pair → Type 0
AreMetBy r ps = All (λ p. IsTrue (has_pair ps p)) r.pairs × All (λ key. IsTrue (has_key ps key)) r.keys
