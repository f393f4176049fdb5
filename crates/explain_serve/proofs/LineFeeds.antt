-- A text that ends with no line feed.
use Rattle.std.proofs.Common.{◌≡◌, ◌≢◌, ℕ, ◌+◌, ◌-◌, Bool, true, false, cond, eqb, List, [], ◌∷◌, ◌++◌, length, take, get_or, refl, sym, ap, ◌∙◌, arith, add-one}
use Rattle.std.proofs.lemmas.Bool.{eqb-true}
use Rattle.std.proofs.lemmas.List.{take_all}
use Rattle.std.proofs.Math.Seq.{take-suc}
use Rattle.negotiate_lines.specs.Lines.{without_last}

module _ (x : ℕ) (xs : List ℕ) where
  -- what ends with a byte is what stands before it, and that byte
  parts : (byte : ℕ) → get_or (x ∷ xs) (length (x ∷ xs) - 1) 0 ≡ byte → x ∷ xs ≡ take (length (x ∷ xs) - 1) (x ∷ xs) ++ byte ∷ []
  parts byte last =
      let n = length (x ∷ xs) - 1 in
      sym (take_all (n + 1) (x ∷ xs) (omega arith)) ∙ rw (add-one n) (take-suc (x ∷ xs) n 0 (omega arith)) ∙ ap (λ b. take n (x ∷ xs) ++ b ∷ []) last

  kept_whole : (byte : ℕ) → ((front : List ℕ) → x ∷ xs ≢ front ++ byte ∷ []) → x ∷ xs ≡ without_last byte (x ∷ xs)
  kept_whole byte none = at (eqb (get_or (x ∷ xs) (length (x ∷ xs) - 1) 0) byte) refl
    where
      at : (b : Bool) → eqb (get_or (x ∷ xs) (length (x ∷ xs) - 1) 0) byte ≡ b → x ∷ xs ≡ without_last byte (x ∷ xs)
      at true e = absurd (none (take (length (x ∷ xs) - 1) (x ∷ xs)) (parts byte (eqb-true _ _ e)))
      at false e = sym (ap (λ b. cond b (take (length (x ∷ xs) - 1) (x ∷ xs)) (x ∷ xs)) e)

pub without_none : (bs : List ℕ) → ((front : List ℕ) → bs ≢ front ++ 10 ∷ []) → bs ≡ without_last 10 bs
without_none [] none = refl
without_none (x ∷ xs) none = kept_whole x xs 10 none
