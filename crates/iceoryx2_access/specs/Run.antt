use Rattle.std.specs.Prelude.{List, [], ◌∷◌}

-- A word joins an old state to a new one, letter by letter.
pub data Run {S L : Type 0} (step : S → L → S → Type 0) : S → List L → S → Type 0 where
  done : {s : S} → Run step s [] s
  next : {old mid new : S} {letter : L} {word : List L}
      → step old letter mid → Run step mid word new → Run step old (letter ∷ word) new

-- One of these words joins an old state to a new one.
pub record Joins {S L : Type 0} (step : S → L → S → Type 0) (old : S) (IsWord : List L → Type 0) (new : S)
    : Type 0 where
  pub word : List L
  pub is_word : IsWord word
  pub run : Run step old word new

-- Each letter of the word is such.
abbrev pub Each : {L : Type 0} → (L → Type 0) → List L → Type 0
Each P [] = Unit {0}
Each P (l ∷ word) = P l × Each P word
