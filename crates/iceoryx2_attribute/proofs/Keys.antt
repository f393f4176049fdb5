-- Required keys in their order.
use Rattle.std.proofs.Common.{◌≡◌, ℕ, ◌<◌, ◌≤◌, Bool, true, List, [], length, Result, if◌then◌else◌, refl, subst, ◌∙◌, arith}
use Rattle.std.specs.Prelude.{bytes_eq}
use Rattle.std.specs.List.{insert, list_any}
use Rattle.std.specs.List.Sorted.{IsSearchInRange, IsBinarySearchResult}
use Rattle.std.specs.Ordering.{is_eq}
use Rattle.std.specs.Cmp.Lexicographic.{texts_ties, bytes_decides}
use Rattle.std.proofs.lemmas.Cmp.{nat_list_cmp_total}
use Rattle.std.proofs.lemmas.List.Elements.{All-nil}
use Rattle.std.proofs.lemmas.List.Folds.{Any-from_list_any}
use Rattle.std.proofs.lemmas.Str.{is_utf8-from_IsUtf8}
use Rattle.std.specs.Str.{IsUtf8}
use Rattle.iceoryx2_attribute.specs.Additions.{HasKeyLength}
use Rattle.std.proofs.lemmas.Map.Lookups.{exact_bytes}
use Rattle.iceoryx2_attribute.specs.Ascending.{ascends_by}
use Rattle.iceoryx2_attribute.specs.Attributes.{text_cmp, IsKey}
use Rattle.iceoryx2_attribute.specs.Requirements.{AreKeys, key_before, lists_key, with_key}
use Rattle.iceoryx2_attribute.specs.declared.attribute.TheConstants.{MAX_REQUIRED_KEYS}
use Rattle.iceoryx2_attribute.proofs.Ascending as ascending

lists_is : (keys : List (List ℕ)) (key : List ℕ) → lists_key keys key ≡ list_any (λ k. is_eq (text_cmp k key)) keys
unfolding lists_key
lists_is keys key = λ i. list_any (λ k. texts_ties k key i) keys

-- ---- what a search finds

pub placed : (keys : List (List ℕ)) (key : List ℕ) → ascends_by key_before keys ≡ true → (r : Result ℕ ℕ) → IsSearchInRange r (length keys) → IsBinarySearchResult (λ k. text_cmp k key) keys r → ascending.IsPlace key_before keys key (lists_key keys key) r
unfolding key_before
placed keys key h r within is = ascending.placed text_cmp nat_list_cmp_total exact_bytes keys key _ (lists_is keys key) h r within is

-- ---- limits

pub none_fit : AreKeys []
unfolding ascends_by
none_fit = record { few = omega arith; each = All-nil IsKey; ascending = refl }

fit : (keys : List (List ℕ)) → ascending.AreItems key_before IsKey MAX_REQUIRED_KEYS keys → AreKeys keys
fit keys items = record { few = items.few; each = items.each; ascending = items.ascending }

-- what an insert of the key leaves
pub after_insert : {keys value new : List (List ℕ)} (ok : Bool) (at : ℕ) (key given : List ℕ) → keys ≡ value → AreKeys keys → IsKey key → length keys < MAX_REQUIRED_KEYS → at ≤ length value → insert value at key ≡ with_key value key → given ≡ key → new ≡ (if ok then insert keys at given else keys) → AreKeys new
unfolding key_before
after_insert {new = new} ok at key given is fits one few within place same e =
    fit new (ascending.after_insert text_cmp nat_list_cmp_total IsKey MAX_REQUIRED_KEYS ok at key given is (record { few = fits.few; each = fits.each; ascending = fits.ascending }) one few within place same e)

-- ---- a key that is there

pub there_is_key : (keys : List (List ℕ)) (key : List ℕ) → AreKeys keys → lists_key keys key ≡ true → IsKey key
unfolding lists_key
there_is_key keys key fits h =
    let found = Any-from_list_any (λ k. bytes_eq k key) keys h in
    let same = (bytes_decides found.1 key).0 found.4 in
    subst IsKey (found.3 ∙ same) (fits.each found.0 found.1 found.2)

-- ---- texts

pub is_key : (key : List ℕ) → HasKeyLength key → IsUtf8 key → IsKey key
is_key key fits text = record { long = fits.0; short = fits.1; utf8 = is_utf8-from_IsUtf8 key text }
