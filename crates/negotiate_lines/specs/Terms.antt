-- The terms of a line, and the numbers that they write.
use Rattle.std.specs.Prelude.{ℕ, ◌≡◌, ◌≢◌, ◌<◌, ◌==◌, List, ◌∷◌, ◌++◌, length, filter}
use Rattle.std.specs.Prelude.{slice_index, not, Result, Ok, Err, ⊤}
use Rattle.std.specs.List.{slice_split}
use Rattle.std.specs.Str.Parse.{IsNumeral, digits_value}
use Rattle.negotiate_lines.specs.declared.term.TermError.{TermError}
use Rattle.negotiate_lines.specs.declared.term.TermError.TheVariants as error

-- the terms of a text: what stands between spaces and is not empty
abbrev pub terms_of : List ℕ → List (List ℕ)
terms_of text = filter (λ term. not (length term == 0)) (slice_split (λ byte. byte == 32) text)

-- What stands before the first such byte of a term, and what stands behind it.
pub record AreAround (byte : ℕ) (term front back : List ℕ) : Type 0 where
  pub are : term ≡ front ++ byte ∷ back
  pub first : (i : ℕ) → i < length front → slice_index front i ≢ byte

-- The term is one or more decimal digits, and they write the number, which is below the limit.
pub record IsNumber (limit : ℕ) (term : List ℕ) (n : ℕ) : Type 0 where
  pub numeral : IsNumeral 10 term
  pub value : n ≡ digits_value 10 term
  pub fits : n < limit

-- What is found is such, and where the text is malformed nothing is such. No memory is asked for.
abbrev pub Finds : {A : Type 0} → (A → Type 0) → Result A TermError → Type 0
Finds IsSuch (Ok a) = IsSuch a
Finds {A = A} IsSuch (Err error.Malformed) = (a : A) → IsSuch a → ⊥
Finds IsSuch (Err error.OutOfMemory) = ⊥

-- The same, where memory may run out.
abbrev pub Reads : {A : Type 0} → (A → Type 0) → Result A TermError → Type 0
Reads IsSuch (Ok a) = IsSuch a
Reads {A = A} IsSuch (Err error.Malformed) = (a : A) → IsSuch a → ⊥
Reads IsSuch (Err error.OutOfMemory) = ⊤
