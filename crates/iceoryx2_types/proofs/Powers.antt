use Rattle.std.proofs.Common.{◌≡◌, ℕ, ◌+◌, ◌/◌, ◌%◌, ◌^◌, ◌≤◌, ◌<◌, ◌↔◌, true, suc, zero, refl, sym, ap, subst, arith}
use Rattle.std.proofs.Math.Nat.{div-add-mod, pow-suc, le_refl}
use Rattle.std.proofs.lemmas.Bool.Decides.{Decides-eqb}
use Rattle.std.specs.Int.{is_power_of_two, IsPowerOfTwo}
use Rattle.std.specs.Int.Count.{ones, ones_in}

none_in_zero : (d : ℕ) → ones_in d 0 ≡ 0
unfolding ones_in
none_in_zero zero = refl
none_in_zero (suc d) =
    let rest : ones_in d (0 / 2) ≡ 0 = none_in_zero d in
    let sum : 0 % 2 + ones_in d (0 / 2) ≡ 0 = omega (arith, rest) in
    sum

-- a number without ones is zero
no_ones : (d n : ℕ) → n ≤ d → ones_in d n ≡ 0 → n ≡ 0
unfolding ones_in
no_ones zero n le e = omega (arith, le)
no_ones (suc d) n le e =
    let sum : n % 2 + ones_in d (n / 2) ≡ 0 = e in
    let half : n / 2 ≡ 0 = no_ones d (n / 2) (omega (arith, le, div-add-mod n 2)) (omega (arith, sum)) in
    omega (arith, half, sum, div-add-mod n 2)

double : (n : ℕ) → n % 2 ≡ 0 → IsPowerOfTwo (n / 2) → IsPowerOfTwo n
double n digit (k, e) = (suc k, omega (arith, digit, e, pow-suc 2 k, div-add-mod n 2))

by_digit : (n r d : ℕ) → n % 2 ≡ r → r + ones_in d (n / 2) ≡ 1 → n / 2 ≤ d
    → (ones_in d (n / 2) ≡ 1 → IsPowerOfTwo (n / 2)) → IsPowerOfTwo n
by_digit n zero d digit e le upper = double n digit (upper (omega (arith, e)))
by_digit n (suc zero) d digit e le upper =
    let half : n / 2 ≡ 0 = no_ones d (n / 2) le (omega (arith, e)) in
    (0, omega (arith, digit, half, div-add-mod n 2))
by_digit n (suc (suc r)) d digit e le upper = absurd (omega (arith, e))

one_one : (d n : ℕ) → n ≤ d → ones_in d n ≡ 1 → IsPowerOfTwo n
unfolding ones_in
one_one zero n le e = absurd (omega (arith, e))
one_one (suc d) n le e =
    let small : n / 2 ≤ d = omega (arith, le, div-add-mod n 2) in
    by_digit n (n % 2) d refl e small (one_one d (n / 2) small)

positive : (k : ℕ) → 0 < 2 ^ k
positive zero = omega arith
positive (suc k) = omega (arith, positive k, pow-suc 2 k)

only_one : (k d : ℕ) → 2 ^ k ≤ d → ones_in d (2 ^ k) ≡ 1
unfolding ones_in
only_one k zero le = absurd (omega (arith, le, positive k))
only_one zero (suc d) le = ap (λ x. 1 + x) (none_in_zero d)
only_one (suc k) (suc d) le =
    let half : 2 ^ suc k / 2 ≡ 2 ^ k = omega (arith, pow-suc 2 k, div-add-mod (2 ^ suc k) 2) in
    let digit : 2 ^ suc k % 2 ≡ 0 = omega (arith, pow-suc 2 k, half, div-add-mod (2 ^ suc k) 2) in
    let small : 2 ^ k ≤ d = omega (arith, le, pow-suc 2 k, positive k) in
    let rest : ones_in d (2 ^ suc k / 2) ≡ 1 = subst (λ x. ones_in d x ≡ 1) (sym half) (only_one k d small) in
    omega (arith, digit, rest)

pub powers : (n : ℕ) → (is_power_of_two n ≡ true) ↔ IsPowerOfTwo n
unfolding ones
powers n = (
  λ e. one_one n n (le_refl n) ((Decides-eqb (ones n) 1).0 e),
  λ p. (Decides-eqb (ones n) 1).1 (subst (λ x. ones_in x x ≡ 1) (sym p.1) (only_one p.0 (2 ^ p.0) (le_refl (2 ^ p.0)))),
)
