-- The numbers that terms write.
use Rattle.std.proofs.Common.{◌≡◌, ℕ, ◌<◌, ◌≤◌, ◌^◌, true, false, List, [], ◌∷◌, subst, arith}
use Rattle.std.specs.Prelude.{Result, Ok, Err, slice_index, nat_eq}
use Rattle.std.specs.Char.{digit_value}
use Rattle.std.specs.Str.Parse.{ParsesUnsigned, without_leading_plus}
use Rattle.std.proofs.lemmas.Bool.{eqb-true}
use Rattle.negotiate_lines.specs.Terms.{IsNumber}

-- without a plus in front nothing is dropped
no_plus : (bs : List ℕ) → nat_eq (slice_index bs 0) 43 ≡ false → without_leading_plus bs ≡ bs
no_plus bs h = rw h (grind arith)

pub parsed_number : {E : Type 0} (bs : List ℕ) (n : ℕ) (r : Result ℕ E) → r ≡ Ok n → ParsesUnsigned 64 10 bs r → nat_eq (slice_index bs 0) 43 ≡ false → IsNumber (2 ^ 64) bs n
parsed_number bs n r is h plain =
    let same = no_plus bs plain in
    let found = rw (is, same) at h in
    record { numeral = found.0.0; value = found.1; fits = rw found.1 found.0.1 }

pub parsed_none : {E : Type 0} (bs : List ℕ) (e : E) (r : Result ℕ E) → r ≡ Err e → ParsesUnsigned 64 10 bs r → nat_eq (slice_index bs 0) 43 ≡ false → (n : ℕ) → IsNumber (2 ^ 64) bs n → ⊥
parsed_none bs e r is h plain n found =
    let same = no_plus bs plain in
    let none = rw (is, same) at h in
    none (found.numeral, subst (λ (m : ℕ). m < 2 ^ 64) found.value found.fits)

plus_is_no_digit : digit_value 43 < 10 → ⊥
plus_is_no_digit h = absurd (omega (arith, h))

pub plus_is_no_number : (bs : List ℕ) (n limit : ℕ) → nat_eq (slice_index bs 0) 43 ≡ true → IsNumber limit bs n → ⊥
plus_is_no_number [] n limit h is = absurd cc
plus_is_no_number (b ∷ bs) n limit h is = plus_is_no_digit (subst (λ (c : ℕ). digit_value c < 10) (eqb-true _ _ h) is.numeral.1.0)

-- a number below a lower limit
pub smaller_number : (limit other : ℕ) (term : List ℕ) (n : ℕ) → IsNumber limit term n → n < other → IsNumber other term n
smaller_number limit other term n is fits = record { numeral = is.numeral; value = is.value; fits = fits }

pub too_great : (limit other : ℕ) (term : List ℕ) (n : ℕ) → IsNumber limit term n → other ≤ n → (m : ℕ) → IsNumber other term m → ⊥
too_great limit other term n is past m small = absurd (omega (arith, is.value, small.value, small.fits))

pub ruleset numbers = (parsed_number, parsed_none, plus_is_no_number)

pub ruleset limited_numbers = (smaller_number, too_great)
