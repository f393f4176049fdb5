-- What is escaped has no byte that parts words, terms or values.
use Rattle.std.proofs.Common.{◌≡◌, ℕ, zero, suc, ◌⊎◌, ⊎_elim, subst, ◌<◌, Bool, true, false, ◌&&◌, ◌||◌, ◌==◌, not, nat_lt, List, [], ◌∷◌, All, length, inl, refl, sym, arith}
use Rattle.std.proofs.lemmas.Bool.Decides.{nat_tests}
use Rattle.percent_encoding.specs.AsciiSet.{should_percent_encode}
use Rattle.percent_encoding.proofs.AsciiSetLemmas.{ascii_from_kept}
use Rattle.std.proofs.lemmas.List.Elements.{All-nil, All-cons}
use Rattle.percent_encoding.proofs.PercentLemmas.{All-percent_encode, IsEscapeByte, percent_encode_nonempty}
use Rattle.percent_encoding.proofs.OnLiterals.{percent_encoding_on_literals}
use Rattle.negotiate_lines.specs.declared.leaf.TheConstants.{LEAF_ESCAPES}
use Rattle.negotiate_lines.specs.Leaves.{IsPlain, leaf_of}

abbrev is_plain : ℕ → Bool
is_plain b = nat_lt 32 b && nat_lt b 127 && not (b == 44) && not (b == 58) && not (b == 61)

and_true : (a b : Bool) → (a && b) ≡ true → (a ≡ true) × (b ≡ true)
and_true true true h = (refl, refl)
and_true true false h = absurd cc
and_true false b h = absurd cc

last_or_less : (b n : ℕ) → b < suc n → (b ≡ n) ⊎ (b < n)
last_or_less b n small = grind arith

all_below : ℕ → (ℕ → Bool) → Bool
all_below zero test = true
all_below (suc n) test = test n && all_below n test

below : (n : ℕ) (test : ℕ → Bool) → all_below n test ≡ true → (b : ℕ) → b < n → test b ≡ true
unfolding all_below
below zero test all b small = absurd (omega arith)
below (suc n) test all b small =
    ⊎_elim (λ same. subst (λ k. test k ≡ true) (sym same) (and_true (test n) (all_below n test) all).0)
    (λ less. below n test (and_true (test n) (all_below n test) all).1 b less)
    (last_or_less b n small)

is_kept_or_not : ℕ → Bool
is_kept_or_not b = should_percent_encode LEAF_ESCAPES b || is_plain b

all_told : all_below 128 is_kept_or_not ≡ true
unfolding all_below is_kept_or_not percent_encoding_on_literals
all_told = refl

plain_from_test : (b : ℕ) → is_plain b ≡ true → IsPlain b
plain_from_test b h = grind (arith, nat_tests)

or_false : (a b : Bool) → (a || b) ≡ true → a ≡ false → b ≡ true
or_false a b h e = grind (arith, nat_tests)

plain_from_kept : (b : ℕ) → should_percent_encode LEAF_ESCAPES b ≡ false → IsPlain b
unfolding is_kept_or_not
plain_from_kept b kept =
    plain_from_test b (or_false (should_percent_encode LEAF_ESCAPES b) (is_plain b)
    (below 128 is_kept_or_not all_told b (ascii_from_kept LEAF_ESCAPES b kept)) kept)

plain_from_escape : (b : ℕ) → IsEscapeByte b → IsPlain b
plain_from_escape b h = record {
  printable = grind arith;
  ascii = grind arith;
  no_comma = grind arith;
  no_colon = grind arith;
  no_equals_sign = grind arith;
}

plain_percent : IsPlain 37
plain_percent = plain_from_escape 37 (inl refl)

pub plain : (bytes : List ℕ) → All IsPlain (leaf_of bytes)
unfolding leaf_of
plain [] = All-cons IsPlain 37 [] plain_percent (All-nil IsPlain)
plain (b ∷ bytes) = All-percent_encode IsPlain LEAF_ESCAPES (b ∷ bytes) plain_from_kept plain_from_escape

pub some : (bytes : List ℕ) → 0 < length (leaf_of bytes)
unfolding leaf_of
some [] = omega arith
some (b ∷ bytes) = percent_encode_nonempty LEAF_ESCAPES (b ∷ bytes) (omega arith)
