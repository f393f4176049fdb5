-- A text that is made is printed, and lists by how long they are.
use Rattle.std.proofs.Common.{◌≡◌, ◌≤◌, ◌<◌, ℕ, List, [], ◌∷◌, Option, Result, Ok, Err, IfOk, IfErr, length, get_or, refl, sym, ap, arith}
use Rattle.wulameron_view.specs.declared.looking.LookError.{LookError}
use Rattle.wulameron_view.specs.Looking.{Prints, printed, kept, WritesMade, KeepsWhy}

pub printed_of : {T : Type 0} (bytes : T → List ℕ) (IsText : List ℕ → Type 0) (IsWhy : LookError → Type 0) (made : Result T LookError) (r : Result (Unit {0}) LookError)
    (a b : Option (List ℕ)) → IfOk made (λ t. IsText (bytes t)) → IfErr made IsWhy → IfOk made (λ t. WritesMade (bytes t) r a b) → IfErr made (λ why. KeepsWhy why r a b) → Prints IsText IsWhy r a b
printed_of bytes IsText IsWhy (Ok text) r a b is why writes keeps = printed (bytes text) is writes
printed_of bytes IsText IsWhy (Err e) r a b is why writes keeps = kept e why keeps

pub no_item : {A : Type 0} (xs : List A) → length xs < 1 → xs ≡ []
no_item [] few = refl
no_item (x ∷ xs) few = absurd (omega (arith, few))

pub one_item : {A : Type 0} (xs : List A) (x : A) → 1 ≤ length xs → length xs < 2 → x ≡ get_or xs 0 x → xs ≡ x ∷ []
one_item [] x many few is = absurd (omega (arith, many))
one_item (y ∷ []) x many few is = ap (λ z. z ∷ []) (sym is)
one_item (y ∷ z ∷ xs) x many few is = absurd (omega (arith, few))

pub two_items : {A : Type 0} (xs found : List A) → found ≡ xs → 2 ≤ length xs → (a : A) × (b : A) × (rest : List A) × (found ≡ a ∷ b ∷ rest)
two_items [] found same many = absurd (omega (arith, many))
two_items (x ∷ []) found same many = absurd (omega (arith, many))
two_items (x ∷ y ∷ xs) found same many = (x, y, xs, same)
