-- The parts of a line.
use Rattle.std.proofs.Common.{◌≡◌, ℕ, List, ◌++◌, ap, sym, ◌∙◌, take-append-drop, drop}
use Rattle.std.specs.List.{IsSplitAt}

pub parts_of : (s front back : List ℕ) (n : ℕ) → IsSplitAt s n front back → s ≡ front ++ back
parts_of s front back n h =
    sym (take-append-drop n s) ∙ ap (λ l. l ++ drop n s) (sym h.1) ∙ ap (λ l. front ++ l) (sym h.2)
