-- The settings of a pattern as a table of rows: whether each is asked for, what is there and what is asked for, how
-- the two are compared, and with which error a call is refused.
use Rattle.std.specs.Prelude.{ℕ, Bool, true, List, [], ◌∷◌, Option, ◌≡◌, ◌≤◌, map}
use Rattle.iceoryx2_description.specs.Span.{Span}
use Rattle.iceoryx2_rounds.specs.Verdict.{Clause, SettingRow, at_least, flag_is, number_is, span_is, marked_clauses}

pub data Row (E : Type 0) : Type 0 where
  -- not less than is asked for
  AtLeast : (is_marked : Bool) (existing required : ℕ) (error : E) → Row E
  -- the same as is asked for
  SameFlag : (is_marked : Bool) (existing required : Bool) (error : E) → Row E
  SameNumber : (is_marked : Bool) (existing required : Option ℕ) (error : E) → Row E
  SameSpan : (is_marked : Bool) (existing required : Option Span) (error : E) → Row E

-- its test
abbrev pub tested : {E : Type 0} → Row E → SettingRow E
tested (AtLeast marked existing required error) = at_least marked existing required error
tested (SameFlag marked existing required error) = flag_is marked existing required error
tested (SameNumber marked existing required error) = number_is marked existing required error
tested (SameSpan marked existing required error) = span_is marked existing required error

-- what a service has to meet: the tests of the marked rows, in order
abbrev pub row_clauses : {E : Type 0} → List (Row E) → List (Clause E)
row_clauses rows = marked_clauses (map tested rows)

-- One row asks for something only where another of what is there asks for as much, or for the same.
abbrev pub AsksNoMore : {E : Type 0} → (weaker stronger : Row E) → Type 0
AsksNoMore (AtLeast m x a e) (AtLeast n y b f) = m ≡ true → (n ≡ true) × (x ≡ y) × (a ≤ b)
AsksNoMore (SameFlag m x a e) (SameFlag n y b f) = m ≡ true → (n ≡ true) × (x ≡ y) × (a ≡ b)
AsksNoMore (SameNumber m x a e) (SameNumber n y b f) = m ≡ true → (n ≡ true) × (x ≡ y) × (a ≡ b)
AsksNoMore (SameSpan m x a e) (SameSpan n y b f) = m ≡ true → (n ≡ true) × (x ≡ y) × (a ≡ b)
AsksNoMore weaker stronger = ⊥

-- row by row
abbrev pub AskNoMore : {E : Type 0} → (weaker stronger : List (Row E)) → Type 0
AskNoMore [] [] = Unit {0}
AskNoMore (weaker ∷ rows) (stronger ∷ others) = AsksNoMore weaker stronger × AskNoMore rows others
AskNoMore weaker stronger = ⊥

-- whatever is there, for what is asked by these rows
abbrev pub IsWeakerBy : {D X E : Type 0} → (D → X → List (Row E)) → (weaker stronger : D) → Type 0
IsWeakerBy {X = X} rows weaker stronger = (there : X) → AskNoMore (rows weaker there) (rows stronger there)
