-- What a text is written as stands for the text, and each leaf for one.
use Rattle.std.proofs.Common.{◌≡◌, ℕ, ◌<◌, ◌/◌, ◌%◌, Bool, true, false, ◌&&◌, List, [], ◌∷◌, ◌++◌, Some, ◌==◌, length, bytes_eq, codes, eqb, refl, sym, ap, subst, ◌∙◌, ⊎_elim, arith}
use Rattle.std.specs.Prelude.{Result, Ok, Err, OnOk, is_ok, if◌then◌else◌}
use Rattle.std.specs.Str.{IsUtf8}
use Rattle.std.specs.Char.{is_digit}
use Rattle.std.specs.Fmt.{digit_glyph}
use Rattle.std.proofs.lemmas.Bool.{cases_Bool, cond-true, cond-false, both_ways, ne_eqb}
use Rattle.std.proofs.lemmas.Bool.Decides.{nat_tests}
use Rattle.percent_encoding.specs.declared.ascii_set.AsciiSet.{AsciiSet}
use Rattle.percent_encoding.specs.AsciiSet.{contains, should_percent_encode}
use Rattle.percent_encoding.specs.Percent.{percent_encode, percent_encode_byte}
use Rattle.percent_encoding.proofs.AsciiSetLemmas.{escaped_from_inside}
use Rattle.percent_encoding.proofs.PercentLemmas.{percent_encode-nil, percent_encode_escaped, percent_encode_kept, round_trip}
use Rattle.negotiate_lines.specs.declared.leaf.Form.{Form}
use Rattle.negotiate_lines.specs.declared.leaf.Form.TheVariants as form
use Rattle.negotiate_lines.specs.declared.leaf.TheConstants.{LEAF_ESCAPES}
use Rattle.negotiate_lines.proofs.LeavesUtf8.{AreBytes, are_bytes}
use Rattle.negotiate_lines.specs.Leaves.{IsLeaf, bytes_of, go_on, are_whole, leaf_of}

glyph_is_digit : (d : ℕ) → d < 16 → is_digit (digit_glyph true d) 16 ≡ true
glyph_is_digit d small = grind (arith, nat_tests)

whole_escape : (b : ℕ) (rest : List ℕ) → go_on 0 (percent_encode_byte b ++ rest) ≡ go_on 0 rest
unfolding go_on percent_encode_byte
whole_escape b rest =
    let high = glyph_is_digit (b / 16 % 16) (omega arith) in
    let low = glyph_is_digit (b % 16) (omega arith) in
    rw (high, low) refl

-- what is escaped with each byte of a set that has `%`
whole_kept : (set : AsciiSet) → contains set 37 ≡ true → (b : ℕ) (rest : List ℕ) → should_percent_encode set b ≡ false
    → go_on 0 (b ∷ rest) ≡ go_on 0 rest
unfolding go_on
whole_kept set has b rest kept =
    let other : b ≡ 37 → ⊥ = λ percent. both_ways _ kept (rw percent (escaped_from_inside set 37 has)) in
    rw (ne_eqb b 37 other) refl

whole : (set : AsciiSet) → contains set 37 ≡ true → (bytes : List ℕ) → are_whole (percent_encode set bytes) ≡ true
unfolding go_on
whole set has [] = rw percent_encode-nil refl
whole set has (b ∷ bytes) =
    ⊎_elim
    (λ e. rw (percent_encode_escaped set b bytes e) (whole_escape b (percent_encode set bytes) ∙ whole set has bytes))
    (λ e. rw (percent_encode_kept set b bytes e) (whole_kept set has b (percent_encode set bytes) e ∙ whole set has bytes))
    (cases_Bool (should_percent_encode set b))

lone_is_broken : go_on 0 (37 ∷ []) ≡ true → ⊥
unfolding go_on
lone_is_broken h = absurd (let wrong : false ≡ true = h in cc)

and-false : (b : Bool) → (b && false) ≡ false
and-false true = refl
and-false false = refl

-- the leaf `%` isn't whole, and what is escaped is
not_lone : (leaf : List ℕ) → are_whole leaf ≡ true → bytes_eq leaf (codes "%") ≡ false
unfolding go_on
not_lone [] h = refl
not_lone (b ∷ []) h =
    let other : b ≡ 37 → ⊥ = λ percent. lone_is_broken (subst (λ n. go_on 0 (n ∷ []) ≡ true) percent h) in
    rw (ne_eqb b 37 other) refl
not_lone (b ∷ c ∷ rest) h = and-false (eqb b 37)

pub part_back : (set : AsciiSet) → contains set 37 ≡ true → (bytes : List ℕ) → AreBytes bytes
    → bytes_of (percent_encode set bytes) ≡ Some bytes
part_back set has bytes small =
    cond-false _ _ _ (not_lone (percent_encode set bytes) (whole set has bytes))
    ∙ cond-true _ _ _ (whole set has bytes) ∙ ap (λ (w : List ℕ). Some w) (round_trip set bytes has small)

bytes_back : (bytes : List ℕ) → AreBytes bytes → bytes_of (leaf_of bytes) ≡ Some bytes
unfolding leaf_of
bytes_back [] small = refl
bytes_back (b ∷ bytes) small = part_back LEAF_ESCAPES refl (b ∷ bytes) small

pub back : (text : List ℕ) → IsUtf8 text → IsLeaf form.Escaped (leaf_of text) text
back text is = (bytes_back text (are_bytes text is), is)

same_value : (a b : List ℕ) → Some a ≡ Some b → a ≡ b
same_value a b h = cc

pub one_leaf : (f : Form) (leaf text other : List ℕ) → IsLeaf f leaf text → IsLeaf f leaf other → text ≡ other
one_leaf form.Plain leaf text other left right = sym left ∙ right
one_leaf form.Escaped leaf text other left right = same_value text other (sym left.0 ∙ right.0)

-- what isn't whole is no leaf
pub broken : (leaf : List ℕ) → bytes_eq leaf (codes "%") ≡ false → are_whole leaf ≡ false → (text : List ℕ)
    → IsLeaf form.Escaped leaf text → ⊥
broken leaf other not_whole text is =
    absurd (let none = sym (cond-false _ _ _ other ∙ cond-false _ _ _ not_whole) ∙ is.0 in cc)

-- ---- what is written

pub no_bytes : (bytes : List ℕ) → (length bytes == 0) ≡ true → codes "%" ≡ leaf_of bytes
unfolding leaf_of
no_bytes [] none = refl
no_bytes (b ∷ bytes) none = absurd (grind (arith, nat_tests, none))

pub some_bytes : (bytes : List ℕ) → (length bytes == 0) ≡ false → percent_encode LEAF_ESCAPES bytes ≡ leaf_of bytes
unfolding leaf_of
some_bytes [] some = absurd (grind (arith, nat_tests, some))
some_bytes (b ∷ bytes) some = refl

-- what is pushed is behind what was there
pub pushed : {A E : Type 0} (r : Result A E) (old new leaf text : List ℕ) → new ≡ (if is_ok r then old ++ leaf else old) → leaf ≡ text
    → OnOk r (new ≡ old ++ text)
pushed (Ok a) old new leaf text is same = is ∙ ap (λ (t : List ℕ). old ++ t) same
pushed (Err e) old new leaf text is same = tt
