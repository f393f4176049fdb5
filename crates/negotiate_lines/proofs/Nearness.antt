-- The nearest of some words, and of one more.
use Rattle.std.proofs.Common.{◌≡◌, ℕ, ◌<◌, ◌≤◌, true, false, List, [], ◌∷◌, ◌++◌, Option, Some, None, append_assoc, refl, sym, ap, subst, ◌∙◌, arith}
use Rattle.iceoryx2_access.specs.Run.{Each}
use Rattle.iceoryx2_access.proofs.Run.{each_append}
use Rattle.negotiate_lines.specs.Nearest.{distance, are_near, IsNearest, Suggests}
use Rattle.negotiate_lines.proofs.OneValue.{false-true}

pub each_also : {A : Type 0} (P Q : A → Type 0) → ((a : A) → P a → Q a) → (xs : List A) → Each P xs → Each Q xs
each_also P Q also [] all = tt
each_also P Q also (x ∷ xs) all = (also x all.0, each_also P Q also xs all.1)

module _ (term : List ℕ) where
  abbrev Farther : ℕ → List ℕ → Type 0
  Farther d word = are_near term word ≡ true → d < distance term word

  abbrev NotNearer : ℕ → List ℕ → Type 0
  NotNearer d word = are_near term word ≡ true → d ≤ distance term word

  still_nearest : (words : List (List ℕ)) (found word : List ℕ) → NotNearer (distance term found) word → IsNearest term words found → IsNearest term (words ++ word ∷ []) found
  still_nearest words found word farther s = record {
    front = s.front;
    behind = s.behind ++ word ∷ [];
    are = ap (λ (ws : List (List ℕ)). ws ++ word ∷ []) s.are ∙ append_assoc s.front (found ∷ s.behind) (word ∷ []);
    near = s.near;
    first = s.first;
    least = each_append (NotNearer (distance term found)) s.behind (word ∷ []) s.least (farther, tt);
  }

  -- a word that isn't near changes nothing
  pub not_near : (words : List (List ℕ)) (nearest : Option (List ℕ)) (word : List ℕ) → are_near term word ≡ false → Suggests term words nearest
      → Suggests term (words ++ word ∷ []) nearest
  not_near words None word far s = each_append (λ w. are_near term w ≡ false) words (word ∷ []) s (far, tt)
  not_near words (Some found) word far s = still_nearest words found word (λ near. absurd (false-true (sym far ∙ near))) s

  -- nor does one that isn't nearer
  pub not_nearer : (words : List (List ℕ)) (found word : List ℕ) → distance term found ≤ distance term word → IsNearest term words found
      → IsNearest term (words ++ word ∷ []) found
  not_nearer words found word least s = still_nearest words found word (λ near. least) s

  -- the first that is near
  pub first_near : (words : List (List ℕ)) (word : List ℕ) → are_near term word ≡ true → Suggests term words None → IsNearest term (words ++ word ∷ []) word
  first_near words word near s = record {
    front = words;
    behind = [];
    are = refl;
    near = near;
    first = each_also (λ w. are_near term w ≡ false) (Farther (distance term word)) (λ w far is. absurd (false-true (sym far ∙ is))) words s;
    least = tt;
  }

  -- one that is nearer
  pub nearer_than : (words : List (List ℕ)) (found word : List ℕ) → are_near term word ≡ true → distance term word < distance term found → IsNearest term words found
      → IsNearest term (words ++ word ∷ []) word
  nearer_than words found word near less s = record {
    front = words;
    behind = [];
    are = refl;
    near = near;
    first =
        subst (λ (ws : List (List ℕ)). Each (Farther (distance term word)) ws) (sym s.are)
        (each_append (Farther (distance term word)) s.front (found ∷ s.behind)
        (each_also (Farther (distance term found)) (Farther (distance term word)) (λ w farther is. let more = farther is in omega (arith, less, more)) s.front s.first)
        ((λ is. less), each_also (NotNearer (distance term found)) (Farther (distance term word)) (λ w farther is. let more = farther is in omega (arith, less, more)) s.behind s.least));
    least = tt;
  }
