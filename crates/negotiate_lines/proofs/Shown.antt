-- The first characters of a word.
use Rattle.std.proofs.Common.{◌≡◌, ◌≢◌, ℕ, ◌-◌, suc, Bool, false, List, [], ◌∷◌, ◌++◌, append_assoc, codes, length, ap, ◌∙◌, arith}
use Rattle.std.specs.Prelude.{nat_lt, take, if◌then◌else◌}
use Rattle.std.specs.List.{flat_map}
use Rattle.std.proofs.lemmas.Bool.Decides.{nat_tests}
use Rattle.negotiate_lines.specs.Escapes.{escaped_character, shown_front}

one_less : (a b : ℕ) → nat_lt (suc a) (suc b) ≡ nat_lt a b
one_less a b = grind (arith, nat_tests)

below_none : (a : ℕ) → nat_lt a 0 ≡ false
below_none a = grind (arith, nat_tests)

after_one : (left c : ℕ) (cs : List ℕ) → shown_front (suc left) (c ∷ cs) ≡ escaped_character c ++ shown_front left cs
after_one left c cs =
    append_assoc (escaped_character c) (flat_map escaped_character (take left cs)) _
    ∙ ap (λ (b : Bool). escaped_character c ++ (flat_map escaped_character (take left cs) ++ (if b then codes ".." else []))) (one_less left (length cs))

-- one character more of them, while some are left
pub one_more : (left c : ℕ) (cs : List ℕ) → left ≢ 0 → shown_front left (c ∷ cs) ≡ escaped_character c ++ shown_front (left - 1) cs
one_more left c cs some =
    let more : left ≡ suc (left - 1) = omega (arith, some) in
    ap (λ (n : ℕ). shown_front n (c ∷ cs)) more ∙ after_one (left - 1) c cs

-- there are no more
pub all_shown : (left : ℕ) → shown_front left [] ≡ []
all_shown left = grind (arith, below_none left)
