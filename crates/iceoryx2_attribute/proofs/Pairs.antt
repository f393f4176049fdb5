-- Pairs in their order.
use Rattle.std.proofs.Common.{◌≡◌, ℕ, ◌-◌, ◌<◌, ◌≤◌, Bool, true, false, List, ◌∷◌, [], ◌++◌, length, Option, Some, None, Result, Ok, Err, IfOk, IfErr, is_ok, if◌then◌else◌, refl, length-append, sym, ap, subst, ◌∙◌, arith}
use Rattle.std.specs.List.{insert, list_any, slice_get}
use Rattle.std.specs.List.Sorted.{IsSearchInRange, IsBinarySearchResult}
use Rattle.std.specs.Ordering.{ordering_index, is_lt, is_eq}
use Rattle.std.specs.declared.cmp.Ordering.{Ordering}
use Rattle.std.specs.declared.cmp.Ordering.TheVariants.{Less, Equal, Greater}
use Rattle.std.specs.Cmp.{IsTotalOrder, both_tied, tied_itself}
use Rattle.std.specs.Cmp.Lexicographic.{texts_ties}
use Rattle.std.proofs.lemmas.Cmp.{on_total, then_total, nat_list_cmp_total}
use Rattle.std.proofs.lemmas.List.Elements.{All-nil, All-push}
use Rattle.std.proofs.lemmas.List.Folds.{Any-from_list_any}
use Rattle.std.proofs.lemmas.Str.{is_utf8-from_IsUtf8}
use Rattle.std.specs.Str.{IsUtf8}
use Rattle.iceoryx2_attribute.specs.Additions.{HasKeyLength, HasValueLength}
use Rattle.std.proofs.lemmas.Map.Lookups.{CmpEqualImpliesEq, exact_bytes, exact_pairs}
use Rattle.iceoryx2_attribute.specs.Ascending.{ascends_by}
use Rattle.iceoryx2_attribute.specs.Attributes.{Pair, pair_of, text_cmp, pair_cmp, pair_before, ascends, same_pair, same_pairs, has_pair, has_key, with_pair, IsPair, AreAttributes}
use Rattle.iceoryx2_attribute.specs.declared.attribute.TheConstants.{MAX_ATTRIBUTES}
use Rattle.iceoryx2_attribute.proofs.Ascending as ascending

pub pair_total : IsTotalOrder pair_cmp
pair_total = then_total (on_total (λ (p : Pair). p.key) nat_list_cmp_total) (on_total (λ (p : Pair). p.value) nat_list_cmp_total)

pub pair_exact : CmpEqualImpliesEq pair_cmp
pair_exact p q e =
    let both : (p.key, p.value) ≡ (q.key, q.value) = exact_pairs text_cmp text_cmp exact_bytes exact_bytes (p.key, p.value) (q.key, q.value) e in
    ap (λ (x : List ℕ × List ℕ). pair_of x.0 x.1) both

pub same_is : (p q : Pair) → same_pair p q ≡ is_eq (pair_cmp p q)
same_is p q = both_tied _ _ (text_cmp p.key q.key) (text_cmp p.value q.value) (texts_ties p.key q.key) (texts_ties p.value q.value)

has_is : (ps : List Pair) (p : Pair) → has_pair ps p ≡ list_any (λ q. is_eq (pair_cmp q p)) ps
unfolding has_pair
has_is ps p = λ i. list_any (λ q. same_is q p i) ps

has_key_is : (ps : List Pair) (key : List ℕ) → has_key ps key ≡ list_any (λ q. is_eq (text_cmp q.key key)) ps
unfolding has_key
has_key_is ps key = λ i. list_any (λ q. texts_ties q.key key i) ps

-- keys rise with their pairs
keys_rise : (key : List ℕ) (p q : Pair) → pair_cmp p q ≡ Less → ordering_index (text_cmp p.key key) ≤ ordering_index (text_cmp q.key key)
keys_rise key p q less = elim (text_cmp p.key q.key) as (λ c. text_cmp p.key q.key ≡ c → ordering_index (text_cmp p.key key) ≤ ordering_index (text_cmp q.key key)) [
  | Less ↦ λ e. ascending.indices_rise text_cmp nat_list_cmp_total key p.key q.key e
  | Equal ↦ λ e. rw (nat_list_cmp_total.congr p.key q.key key e) (omega arith)
  | Greater ↦ λ e. let wrong = rw e at less in cc
] refl

-- ---- what a search finds

pub placed : (ps : List Pair) (p : Pair) → ascends ps ≡ true → (r : Result ℕ ℕ) → IsSearchInRange r (length ps) → IsBinarySearchResult (λ q. pair_cmp q p) ps r → ascending.IsPlace pair_before ps p (has_pair ps p) r
unfolding pair_before
placed ps p h r within is = ascending.placed pair_cmp pair_total pair_exact ps p _ (has_is ps p) h r within is

found_or_not : (r : Result ℕ ℕ) (b : Bool) → IfOk r (λ _. b ≡ true) → IfErr r (λ _. b ≡ false) → is_ok r ≡ b
found_or_not (Ok i) b is is_not = sym is
found_or_not (Err i) b is is_not = sym is_not

-- a search by key alone
pub key_found : (ps : List Pair) (key : List ℕ) → ascends ps ≡ true → (r : Result ℕ ℕ) → IsSearchInRange r (length ps) → IsBinarySearchResult (λ q. text_cmp q.key key) ps r → is_ok r ≡ has_key ps key
unfolding pair_before
key_found ps key h r within is =
    let answers = ascending.searched pair_cmp pair_total (λ q. text_cmp q.key key) (keys_rise key) ps h r within is in
    found_or_not r _ answers.0 answers.1 ∙ sym (has_key_is ps key)

-- ---- one more behind the others

-- whether it may follow the last, if there is one
abbrev pub may_follow : Option Pair → Pair → Bool
may_follow None p = true
may_follow (Some q) p = is_lt (pair_cmp q p)

pub ascends_behind : (ps : List Pair) (p : Pair) → ascends ps ≡ true → ascends (ps ++ p ∷ []) ≡ may_follow (slice_get ps (length ps - 1)) p
unfolding pair_before
ascends_behind ps p h = elim (slice_get ps (length ps - 1)) as (λ o. o ≡ slice_get ps (length ps - 1) → ascends (ps ++ p ∷ []) ≡ may_follow o p) [
  | None ↦ λ e. ascending.ascends_first pair_before ps p e
  | Some q ↦ λ e. ascending.ascends_push pair_before ps q p e h
] refl

-- ---- limits

pub none_fit : AreAttributes []
unfolding ascends_by
none_fit = record { few = omega arith; each = All-nil IsPair; ascending = refl }

-- one more behind the others
pub next_fits : (ps : List Pair) (p : Pair) → AreAttributes ps → IsPair p → length ps < MAX_ATTRIBUTES → ascends (ps ++ p ∷ []) ≡ true → AreAttributes (ps ++ p ∷ [])
next_fits ps p fits one few ascending = record {
  few = omega (arith, length-append ps (p ∷ []));
  each = All-push IsPair ps p fits.each one;
  ascending = ascending;
}

fit : (ps : List Pair) → ascending.AreItems pair_before IsPair MAX_ATTRIBUTES ps → AreAttributes ps
fit ps items = record { few = items.few; each = items.each; ascending = items.ascending }

-- what an insert of the pair leaves
pub after_insert : {ps value new : List Pair} (ok : Bool) (at : ℕ) (p given : Pair) → ps ≡ value → AreAttributes ps → IsPair p → length ps < MAX_ATTRIBUTES → at ≤ length value → insert value at p ≡ with_pair value p → given ≡ p → new ≡ (if ok then insert ps at given else ps) → AreAttributes new
unfolding pair_before
after_insert {new = new} ok at p given is fits one few within place same e =
    fit new (ascending.after_insert pair_cmp pair_total IsPair MAX_ATTRIBUTES ok at p given is (record { few = fits.few; each = fits.each; ascending = fits.ascending }) one few within place same e)

-- ---- equality

pair_same : (p q : Pair) → same_pair p q ≡ true → p ≡ q
pair_same p q e = pair_exact p q (eq_is _ (sym (same_is p q) ∙ e))
  where
    eq_is : (r : Ordering) → is_eq r ≡ true → r ≡ Equal
    eq_is Less h = cc
    eq_is Equal h = refl
    eq_is Greater h = cc

pub same_itself : (p : Pair) → same_pair p p ≡ true
same_itself p = same_is p p ∙ ap is_eq (tied_itself pair_total p)

pub same_pairs_are : (ps qs : List Pair) → same_pairs ps qs ≡ true → ps ≡ qs
same_pairs_are [] [] e = refl
same_pairs_are [] (q ∷ qs) e = cc
same_pairs_are (p ∷ ps) [] e = cc
same_pairs_are (p ∷ ps) (q ∷ qs) e =
    let parts = ascending.both_true (same_pair p q) (same_pairs ps qs) e in
    let heads = pair_same p q parts.0 in
    let tails = same_pairs_are ps qs parts.1 in
    λ i. heads i ∷ tails i

pub same_pairs_itself : (ps : List Pair) → same_pairs ps ps ≡ true
same_pairs_itself [] = refl
same_pairs_itself (p ∷ ps) = rw (same_itself p, same_pairs_itself ps) refl

-- ---- a pair that is there

pub there_is_pair : (ps : List Pair) (p : Pair) → AreAttributes ps → has_pair ps p ≡ true → IsPair p
unfolding has_pair
there_is_pair ps p fits h =
    let found = Any-from_list_any (λ q. same_pair q p) ps h in
    let same = pair_same found.1 p found.4 in
    subst IsPair (found.3 ∙ same) (fits.each found.0 found.1 found.2)

-- ---- texts

pub is_pair : (p : Pair) → HasKeyLength p.key → HasValueLength p.value → IsUtf8 p.key → IsUtf8 p.value → IsPair p
is_pair p key value key_text value_text = record {
  key = record { long = key.0; short = key.1; utf8 = is_utf8-from_IsUtf8 p.key key_text };
  value = record { long = omega arith; short = value; utf8 = is_utf8-from_IsUtf8 p.value value_text };
}
