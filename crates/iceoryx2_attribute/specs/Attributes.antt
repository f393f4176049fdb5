-- Attributes: pairs of a key and a value.
use Rattle.std.specs.Prelude.{ℕ, ◌≤◌, Bool, ◌&&◌, List, length, IsTrue, All, bytes_eq}
use Rattle.std.specs.List.{list_any}
use Rattle.std.specs.Ordering.{ordering_then, nat_cmp, is_lt}
use Rattle.std.specs.Cmp.Lexicographic.{slice_cmp, pointwise}
use Rattle.std.specs.declared.cmp.Ordering.{Ordering}
use Rattle.iceoryx2_attribute.specs.declared.attribute.TheConstants.{MIN_KEY_LENGTH, MAX_KEY_LENGTH}
use Rattle.iceoryx2_attribute.specs.declared.attribute.TheConstants.{MAX_VALUE_LENGTH, MAX_ATTRIBUTES}
use Rattle.iceoryx2_types.specs.Texts.{IsText}
use Rattle.iceoryx2_attribute.specs.Ascending.{ascends_by, with_item}

-- the bytes of both texts
pub record Pair : Type 0 where
  pub key : List ℕ
  pub value : List ℕ

abbrev pub pair_of : List ℕ → List ℕ → Pair
pair_of key value = record { key = key; value = value }

-- ---- their order: by the key's bytes, then the value's

abbrev pub text_cmp : List ℕ → List ℕ → Ordering
text_cmp s t = slice_cmp nat_cmp s t

abbrev pub pair_cmp : Pair → Pair → Ordering
pair_cmp p q = ordering_then (text_cmp p.key q.key) (text_cmp p.value q.value)

unfoldable pub pair_before : Pair → Pair → Bool
pair_before p q = is_lt (pair_cmp p q)

-- each pair stands before the next
abbrev pub ascends : List Pair → Bool
ascends ps = ascends_by pair_before ps

-- ---- their limits

abbrev pub IsKey : List ℕ → Type 0
IsKey = IsText MIN_KEY_LENGTH MAX_KEY_LENGTH

abbrev pub IsValue : List ℕ → Type 0
IsValue = IsText 0 MAX_VALUE_LENGTH

pub record IsPair (p : Pair) : Type 0 where
  pub key : IsKey p.key
  pub value : IsValue p.value

pub record AreAttributes (ps : List Pair) : Type 0 where
  pub few : length ps ≤ MAX_ATTRIBUTES
  pub each : All IsPair ps
  pub ascending : IsTrue (ascends ps)

-- ---- what is there

abbrev pub same_pair : Pair → Pair → Bool
same_pair p q = bytes_eq p.key q.key && bytes_eq p.value q.value

-- the same pairs in the same places
abbrev pub same_pairs : List Pair → List Pair → Bool
same_pairs ps qs = pointwise same_pair ps qs

unfoldable pub has_pair : List Pair → Pair → Bool
has_pair ps p = list_any (λ q. same_pair q p) ps

-- with any value
unfoldable pub has_key : List Pair → List ℕ → Bool
has_key ps key = list_any (λ q. bytes_eq q.key key) ps

-- the pairs with p in its place
abbrev pub with_pair : List Pair → Pair → List Pair
with_pair ps p = with_item pair_before ps p
