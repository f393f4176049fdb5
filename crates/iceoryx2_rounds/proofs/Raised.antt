-- What was raised isn't zero, and isn't less than before.
use Rattle.std.proofs.Common.{◌≡◌, ℕ, ◌<◌, true, false, cond, refl, arith}
use Rattle.std.specs.Prelude.{nat_eq, nat_le}
use Rattle.std.proofs.lemmas.Bool.Decides.{nat_tests}
use Rattle.iceoryx2_rounds.specs.Zeros.{at_least_one}

pub raised_above : (n : ℕ) → 0 < at_least_one n
raised_above n = elim (nat_eq n 0) as (λ b. nat_eq n 0 ≡ b → 0 < cond b 1 n) [
  | true ↦ λ e. omega arith
  | false ↦ λ e. grind (arith, nat_tests, e)
] refl

pub not_below : (n : ℕ) → nat_le n (at_least_one n) ≡ true
not_below n = elim (nat_eq n 0) as (λ b. nat_eq n 0 ≡ b → nat_le n (cond b 1 n) ≡ true) [
  | true ↦ λ e. grind (arith, nat_tests, e)
  | false ↦ λ e. grind (arith, nat_tests)
] refl
