-- Leaves whose escapes are whole.
use Rattle.std.proofs.Common.{◌≡◌, ℕ, ◌+◌, ◌<◌, false, List, ◌∷◌, Some, None, drop, length, get_or, ap, ◌∙◌, arith, ◌==◌, ◌≤◌}
use Rattle.std.proofs.lemmas.Bool.Decides.{nat_tests}
use Rattle.std.proofs.lemmas.List.{drop_more, drop_all}
use Rattle.negotiate_lines.specs.Leaves.{go_on, digits_after}

pub goes_on : (digits b more : ℕ) (rest : List ℕ) → Some more ≡ digits_after digits b → go_on digits (b ∷ rest) ≡ go_on more rest
unfolding go_on
goes_on digits b more rest e = grind (arith, nat_tests)

pub breaks_off : (digits b : ℕ) (rest : List ℕ) → None ≡ digits_after digits b → go_on digits (b ∷ rest) ≡ false
unfolding go_on
breaks_off digits b rest e = grind (arith, nat_tests)

pub one_more : (leaf : List ℕ) (i digits more : ℕ) → i < length leaf → Some more ≡ digits_after digits (get_or leaf i 0)
    → go_on digits (drop i leaf) ≡ go_on more (drop (i + 1) leaf)
one_more leaf i digits more within e =
    ap (go_on digits) (drop_more leaf i 0 within) ∙ goes_on digits (get_or leaf i 0) more (drop (i + 1) leaf) e

pub none_more : (leaf : List ℕ) (i digits : ℕ) → i < length leaf → None ≡ digits_after digits (get_or leaf i 0)
    → go_on digits (drop i leaf) ≡ false
none_more leaf i digits within e =
    ap (go_on digits) (drop_more leaf i 0 within) ∙ breaks_off digits (get_or leaf i 0) (drop (i + 1) leaf) e

pub at_end : (leaf : List ℕ) (i digits : ℕ) → length leaf ≤ i → go_on digits (drop i leaf) ≡ (digits == 0)
unfolding go_on
at_end leaf i digits past = ap (go_on digits) (drop_all i leaf past)
