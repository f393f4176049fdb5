-- What a writer leaves that dies within an append.
use Rattle.std.proofs.Common.{inl, inr, ℕ, ◌<◌, List, [], ◌∷◌, length, refl, arith}
use Rattle.iceoryx2_log.proofs.Found.{cut_is_short}
use Rattle.iceoryx2_file_log.specs.Remainder.{WithOrWithout}
use Rattle.iceoryx2_file_log.proofs.Torn.{none_torn_away}

some_more : (x : ℕ) (xs : List ℕ) → 0 < length (x ∷ xs)
some_more x xs = omega arith

pub with_or_without : WithOrWithout
with_or_without e written [] is = inl refl
with_or_without e written (x ∷ xs) is =
    let short = cut_is_short written (x ∷ xs) e is (some_more x xs) in
    inr (inl short, λ d count begins. none_torn_away written d count (inl short) begins)
