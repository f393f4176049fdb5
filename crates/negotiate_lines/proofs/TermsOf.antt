-- The terms of a text, one after the other.
use Rattle.std.proofs.Common.{◌≡◌, ◌≢◌, ℕ, ◌<◌, ◌==◌, true, false, List, [], ◌∷◌, Some, None, length, filter, get_or, eqb, refl, ap, ◌∙◌, Bor, All, lit<, inl, inr, arith}
use Rattle.std.specs.Prelude.{not}
use Rattle.std.specs.List.{slice_split}
use Rattle.std.proofs.lemmas.List.{length-append}
use Rattle.std.proofs.lemmas.Bool.Decides.{eqb_tells, nat_tests}
use Rattle.std.proofs.lemmas.List.Elements.{All-from_get_or}
use Rattle.std.proofs.lemmas.List.Splits.{slice_split_at, slice_split_none}
use Rattle.std.proofs.lemmas.Str.Pattern.{IsSplitOnceResult, split_parts}
use Rattle.negotiate_lines.specs.Terms.{terms_of}

-- the parts that are terms
abbrev pub chosen : List (List ℕ) → List (List ℕ)
chosen parts = filter (λ term. not (length term == 0)) parts

abbrev pub parts_of : List ℕ → List (List ℕ)
parts_of bs = slice_split (λ b. eqb b 32) bs

pub unequal : (a b : ℕ) → a ≢ b → eqb a b ≡ false
unequal a b h =
    elim (eqb_tells a b) [
      | inl same ↦ absurd (h same.1)
      | inr other ↦ other.0
    ]

lacks_all : (bs : List ℕ) → ((i : ℕ) → i < length bs → get_or bs i 0 ≢ 32) → All (λ b. eqb b 32 ≡ false) bs
lacks_all bs lacks = All-from_get_or (λ b. eqb b 32 ≡ false) bs 0 (λ i within. unequal _ 32 (lacks i within))

pub chosen_first : (p : List ℕ) (parts : List (List ℕ)) → (length p == 0) ≡ false → chosen (p ∷ parts) ≡ p ∷ chosen parts
chosen_first p parts h = rw h refl

chosen_after : (p : List ℕ) (parts : List (List ℕ)) → (length p == 0) ≡ true → chosen (p ∷ parts) ≡ chosen parts
chosen_after p parts h = rw h refl

-- what a cut at the first space leaves
module _ (bs : List ℕ) (part after : Bor (List ℕ)) (cut : IsSplitOnceResult 32 bs (Some (part, after))) where
  parted : parts_of bs ≡ part.now ∷ parts_of after.now
  parted =
      let found = split_parts 32 bs (Some (part, after)) cut (lit< tt) in
      ap parts_of found.0 ∙ slice_split_at (λ b. eqb b 32) part.now 32 after.now (lacks_all part.now found.1) refl

  pub term_found : (length part.now == 0) ≡ false → terms_of bs ≡ part.now ∷ terms_of after.now
  term_found some = ap chosen parted ∙ chosen_first part.now (parts_of after.now) some

  pub shorter_after : length after.now < length bs
  shorter_after = omega (arith, ap (λ (t : List ℕ). length t) (split_parts 32 bs (Some (part, after)) cut (lit< tt)).0, length-append part.now (32 ∷ after.now))

-- what has no space is one part
module _ (bs : List ℕ) (uncut : IsSplitOnceResult 32 bs None) where
  whole : parts_of bs ≡ bs ∷ []
  whole = slice_split_none (λ b. eqb b 32) bs (lacks_all bs (split_parts 32 bs None uncut (lit< tt)))

  pub last_term : (length bs == 0) ≡ false → terms_of bs ≡ bs ∷ []
  last_term some = ap chosen whole ∙ chosen_first bs [] some

  pub no_term : (length bs == 0) ≡ true → terms_of bs ≡ []
  no_term none = ap chosen whole ∙ chosen_after bs [] none

pub not_empty : (bs : List ℕ) → (length bs == 0) ≡ false → 0 < length bs
not_empty bs h = grind (arith, nat_tests, h)
