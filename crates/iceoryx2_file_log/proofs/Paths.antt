-- What stands around the last slash of a path.
use Rattle.std.proofs.Common.{◌≡◌, ℕ, ◌+◌, ◌≤◌, ◌<◌, List, [], ◌∷◌, ◌++◌, Option, Some, None, length, take, drop, eqb, inl, inr, refl, sym, ap, ◌∙◌, subst, append_assoc, take-append-drop, Bor, arith}
use Rattle.std.specs.Prelude.{MatchOption, codes}
use Rattle.std.specs.Str.{NoCharPasses}
use Rattle.std.specs.Str.Pattern.{RFindsChar}
use Rattle.std.proofs.lemmas.Str.Pattern.{NoCharPasses-char, drop_at_char}
use Rattle.iceoryx2_file_log.specs.Path.{slash, HasNoSlash, IsSplit}

no_bytes : (s : List ℕ) → length s ≡ 0 → s ≡ []
no_bytes [] h = refl
no_bytes (b ∷ s) h = absurd (omega (arith, h))

-- what a search for the last slash answers
abbrev IsCut : List ℕ → Option (Bor (List ℕ) × Bor (List ℕ)) → Type 0
IsCut s r = MatchOption r (RFindsChar slash s None) (λ x. (i : ℕ) × (j : ℕ) × RFindsChar slash s (Some (i, j)) × (x.0.now ≡ take i s) × (x.1.now ≡ drop j s) × (i ≤ j) × (length x.0.now ≡ i) × (length x.1.now + j ≡ length s))

pub cut_there : (s : List ℕ) (x : Bor (List ℕ) × Bor (List ℕ)) → IsCut s (Some x)
    → (s ≡ x.0.now ++ (slash ∷ [] ++ x.1.now)) × HasNoSlash x.1.now
cut_there s x h = (
  sym (take-append-drop h.0 s) ∙ (λ k. sym h.3 k ++ (drop_at_char slash s h.0 h.1 h.2.1 (omega arith) ∙ ap (λ l. slash ∷ l) (sym h.4)) k),
  λ i. NoCharPasses-char slash x.1.now i (subst (NoCharPasses (λ d. eqb d slash)) (sym h.4) h.2.0) (omega arith),
)

-- a path without a slash
pub in_place : (s : List ℕ) → IsCut s None → IsSplit s (codes ".") s
in_place s h = record {
  front = [];
  begins = inl (refl, refl);
  bare = λ i. NoCharPasses-char slash s i h (omega arith);
  is = refl;
}

-- one whose only slash is its first byte
pub in_root : (s : List ℕ) (x : Bor (List ℕ) × Bor (List ℕ)) → IsCut s (Some x) → length x.0.now ≡ 0
    → IsSplit s (codes "/") x.1.now
in_root s x h none = record {
  front = slash ∷ [];
  begins = inr (inl (refl, refl));
  bare = (cut_there s x h).1;
  is = (cut_there s x h).0 ∙ ap (λ l. l ++ (slash ∷ [] ++ x.1.now)) (no_bytes x.0.now none);
}

pub in_folder : (s : List ℕ) (x : Bor (List ℕ) × Bor (List ℕ)) → IsCut s (Some x) → 0 < length x.0.now
    → IsSplit s x.0.now x.1.now
in_folder s x h some = record {
  front = x.0.now ++ slash ∷ [];
  begins = inr (inr (some, refl));
  bare = (cut_there s x h).1;
  is = (cut_there s x h).0 ∙ sym (append_assoc x.0.now (slash ∷ []) x.1.now);
}
