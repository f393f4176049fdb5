-- The terms that a pattern has for itself: a table with a row for each setting.
use Rattle.std.specs.Prelude.{ℕ, ◌≡◌, Bool, true, not, ◌&&◌, List, [], ◌∷◌, ◌++◌, map, Option, Some, None, MatchOption}
use Rattle.std.specs.Prelude.{if◌then◌else◌, bytes_eq, codes, IsTrue}
use Rattle.std.specs.Borrow.{Bor}
use Rattle.std.specs.List.{list_any}
use Rattle.iceoryx2_types.specs.Types.{Detail}
use Rattle.iceoryx2_description.specs.Span.{Span}
use Rattle.negotiate_lines.specs.declared.vocabulary.Kind.{Kind}
use Rattle.negotiate_lines.specs.declared.vocabulary.Kind.TheVariants as kind
use Rattle.negotiate_lines.specs.declared.leaf.Form.{Form}
use Rattle.negotiate_lines.specs.Values.{IsNatural, IsNoneOr, IsSpanTerm, IsTruthTerm, IsAlignmentTerm, IsDetailTerm}

-- What kind of value a setting takes, and which setter is made of it. S are the setters of a pattern's builder.
pub data Takes (S : Type 0) : Type 0 where
  number : (ℕ → S) → Takes S
  truth : (Bool → S) → Takes S
  event : (Option ℕ → S) → Takes S
  time : (Option Span → S) → Takes S
  alignment : (ℕ → S) → Takes S
  type : (Detail → S) → Takes S

-- which kind of value that is
abbrev pub kind_of : {S : Type 0} → Takes S → Kind
kind_of (number setter) = kind.Number
kind_of (truth setter) = kind.Truth
kind_of (event setter) = kind.Event
kind_of (time setter) = kind.Length
kind_of (alignment setter) = kind.Alignment
kind_of (type setter) = kind.Type

-- the value means what the setter is given
abbrev pub Gives : {A S : Type 0} → (List ℕ → A → Type 0) → (A → S) → List ℕ → S → Type 0
Gives {A = A} IsSuch setter value s = (a : A) × IsSuch value a × (s ≡ setter a)

-- the value means the setter that is made of it, in a line of this form
abbrev pub Sets : {S : Type 0} → Form → Takes S → List ℕ → S → Type 0
Sets form (number setter) = Gives IsNatural setter
Sets form (truth setter) = Gives IsTruthTerm setter
Sets form (event setter) = Gives (IsNoneOr IsNatural) setter
Sets form (time setter) = Gives (IsNoneOr IsSpanTerm) setter
Sets form (alignment setter) = Gives IsAlignmentTerm setter
Sets form (type setter) = Gives (IsDetailTerm form) setter

-- a row: the name of a setting, and what it takes
abbrev pub VocabularyRow : Type 0 → Type 0
VocabularyRow S = List ℕ × Takes S

-- each name with the kind of value that its setting takes
abbrev pub kinds_of : {S : Type 0} → List (VocabularyRow S) → List (List ℕ × Kind)
kinds_of rows = map (λ row. (row.0, kind_of row.1)) rows

-- the same of a table that is found
abbrev pub table_of : List (Bor (List ℕ) × Kind) → List (List ℕ × Kind)
table_of settings = map (λ row. (row.0.now, row.1)) settings

-- what stands in the first row of this name
abbrev pub row_of : {A : Type 0} → List (List ℕ × A) → List ℕ → Option A
row_of [] name = None
row_of (row ∷ rows) name = if bytes_eq name row.0 then Some row.1 else row_of rows name

-- The value means a setter, by the row of this name.
abbrev pub IsSettingOf : {S : Type 0} → Form → List (VocabularyRow S) → (name value : List ℕ) → S → Type 0
IsSettingOf form rows name value s = MatchOption (row_of rows name) ⊥ (λ takes. Sets form takes value s)

-- S are the setters of its builder with their values.
pub record Vocabulary (S : Type 0) : Type 0 where
  -- the term by which its calls begin
  pub pattern : List ℕ
  -- its settings
  pub rows : List (VocabularyRow S)
  -- whether its creates are given the time
  pub has_clock : Bool

-- the terms that every pattern has: what the clock gives, a pair that is required, and a key
pub data CommonTerm : Type 0 where
  clock_term pair_term key_term : CommonTerm

abbrev pub common_rows : List (List ℕ × CommonTerm)
common_rows = (codes "now", clock_term) ∷ (codes "attribute", pair_term) ∷ (codes "require_key", key_term) ∷ []

abbrev pub names_of : {A : Type 0} → List (List ℕ × A) → List (List ℕ)
names_of rows = map (λ row. row.0) rows

-- no two of them are the same
abbrev pub are_apart : List (List ℕ) → Bool
are_apart [] = true
are_apart (name ∷ others) = not (list_any (bytes_eq name) others) && are_apart others

-- No setting has the name of another one, or one that every pattern has.
abbrev pub IsUnambiguous : {S : Type 0} → Vocabulary S → Type 0
IsUnambiguous v = IsTrue (are_apart (names_of common_rows ++ names_of v.rows))
