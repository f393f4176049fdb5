-- The numbers that digits write.
use Rattle.std.proofs.Common.{◌≡◌, ℕ, List, None, Result, Ok, Err, sym, ◌∙◌, arith}
use Rattle.std.specs.Prelude.{decimal, false, bytes_eq}
use Rattle.std.specs.Str.Parse.{ParsesUnsigned}
use Rattle.std.proofs.lemmas.Bool.Decides.{not_from_Decides}
use Rattle.std.proofs.lemmas.Fmt.{parse-decimal}
use Rattle.std.proofs.lemmas.Slice.Eq.{bytes_eq-Decides}
use Rattle.iceoryx2_monitoring.specs.Paths.{IsNumberOf}

-- What isn't read is printed of no number.
pub not_read : {E : Type 0} (digits : List ℕ) (e : E) (r : Result ℕ E) → r ≡ Err e → ParsesUnsigned 64 10 digits r
    → IsNumberOf digits None
not_read digits e r is h = λ n small printed. absurd (grind (arith, is, parse-decimal 64 n digits r small small printed h))

-- What is read, and isn't what is printed of that, is printed of no number.
pub not_printed : {E : Type 0} (digits : List ℕ) (n : ℕ) (r : Result ℕ E) → r ≡ Ok n → ParsesUnsigned 64 10 digits r
    → (digits ≡ decimal n → ⊥) → IsNumberOf digits None
not_printed digits n r is h other = λ m small printed. absurd (grind (arith, is, parse-decimal 64 m digits r small small printed h, other))

-- `printed` is what the number is printed as, and isn't the digits
pub differ : (digits printed : List ℕ) (n : ℕ) → bytes_eq printed digits ≡ false → printed ≡ decimal n
    → digits ≡ decimal n → ⊥
differ digits printed n other is same =
    not_from_Decides (bytes_eq printed digits) (bytes_eq-Decides printed digits) other (is ∙ sym same)
