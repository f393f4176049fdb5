-- A text that grows by one part and then by another.
use Rattle.std.proofs.Common.{◌≡◌, ℕ, List, ◌++◌, Result, Ok, Err, OnOk, ap, ◌∙◌, append_assoc}
use Rattle.std.specs.declared.alloc.AllocError.{AllocError}

pub grown_by_both : (one other old mid new : List ℕ) → mid ≡ old ++ one → (r : Result (Unit {0}) AllocError) → OnOk r (new ≡ mid ++ other) → OnOk r (new ≡ old ++ (one ++ other))
grown_by_both one other old mid new first (Ok written) then = then ∙ ap (λ l. l ++ other) first ∙ append_assoc old one other
grown_by_both one other old mid new first (Err error) then = tt

-- what it grows by is what is wanted
pub grown : (mid new part whole : List ℕ) → mid ++ part ≡ whole → (r : Result (Unit {0}) AllocError) → OnOk r (new ≡ mid ++ part) → OnOk r (new ≡ whole)
grown mid new part whole is (Ok written) then = then ∙ is
grown mid new part whole is (Err error) then = tt
