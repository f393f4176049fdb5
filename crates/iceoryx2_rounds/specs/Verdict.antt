-- A requirement is an ordered list of clauses, and its verdict.
use Rattle.std.specs.Prelude.{ℕ, Bool, true, false, List, [], ◌∷◌, ◌++◌, ◌≡◌, ◌&&◌, All, Result, Ok, Err}
use Rattle.std.specs.Prelude.{Option, Some, None, nat_le, nat_eq, if◌then◌else◌}
use Rattle.iceoryx2_description.specs.Span.{Span}

-- One condition on what exists, with the error of a call for which it isn't met.
pub record Clause (E : Type 0) : Type 0 where
  pub is_met : Bool
  pub error : E

-- One condition, and whether it is asked for at all.
pub record SettingRow (E : Type 0) : Type 0 where
  pub is_marked : Bool
  pub clause : Clause E

-- the clauses of the marked rows, in order
unfoldable pub marked_clauses : {E : Type 0} → List (SettingRow E) → List (Clause E)
marked_clauses [] = []
marked_clauses (row ∷ rows) = if row.is_marked then row.clause ∷ marked_clauses rows else marked_clauses rows

-- accepted, or the error of the first clause that isn't met
unfoldable pub verdict : {E : Type 0} → List (Clause E) → Result (Unit {0}) E
verdict [] = Ok tt
verdict (clause ∷ clauses) = if clause.is_met then verdict clauses else Err clause.error

-- the existing number must not be less than the required one
unfoldable pub at_least : {E : Type 0} → (marked : Bool) → (existing required : ℕ) → E → SettingRow E
at_least marked existing required error =
    record { is_marked = marked; clause = record { is_met = nat_le required existing; error = error } }

abbrev pub is_same_number : Option ℕ → Option ℕ → Bool
is_same_number None None = true
is_same_number None (Some b) = false
is_same_number (Some a) None = false
is_same_number (Some a) (Some b) = nat_eq a b

abbrev pub is_same_span : Option Span → Option Span → Bool
is_same_span None None = true
is_same_span None (Some b) = false
is_same_span (Some a) None = false
is_same_span (Some a) (Some b) = nat_eq a.seconds b.seconds && nat_eq a.nanoseconds b.nanoseconds

abbrev pub is_same_flag : Bool → Bool → Bool
is_same_flag true true = true
is_same_flag true false = false
is_same_flag false true = false
is_same_flag false false = true

-- the existing flag must be the required one
unfoldable pub flag_is : {E : Type 0} → (marked : Bool) → (existing required : Bool) → E → SettingRow E
flag_is marked existing required error =
    record { is_marked = marked; clause = record { is_met = is_same_flag existing required; error = error } }

-- the existing number, or none, must be the required one
unfoldable pub number_is : {E : Type 0} → (marked : Bool) → (existing required : Option ℕ) → E → SettingRow E
number_is marked existing required error =
    record { is_marked = marked; clause = record { is_met = is_same_number existing required; error = error } }

-- the existing length of time, or none, must be the required one
unfoldable pub span_is : {E : Type 0} → (marked : Bool) → (existing required : Option Span) → E → SettingRow E
span_is marked existing required error =
    record { is_marked = marked; clause = record { is_met = is_same_span existing required; error = error } }

-- the first of two verdicts, and the second where the first accepts
abbrev pub and_then : {E : Type 0} → Result (Unit {0}) E → Result (Unit {0}) E → Result (Unit {0}) E
and_then (Ok done) second = second
and_then (Err error) second = Err error

abbrev pub IsMet : {E : Type 0} → Clause E → Type 0
IsMet clause = clause.is_met ≡ true

-- A clause with this error isn't met, and each clause before it is.
pub record IsFirstUnmet {E : Type 0} (clauses : List (Clause E)) (error : E) : Type 0 where
  pub front : List (Clause E)
  pub unmet : Clause E
  pub back : List (Clause E)
  pub in_order : clauses ≡ front ++ unmet ∷ back
  pub met_before : All IsMet front
  pub not_met : unmet.is_met ≡ false
  pub its_error : unmet.error ≡ error

-- What a verdict means.
abbrev pub IsVerdict : {E : Type 0} → List (Clause E) → Result (Unit {0}) E → Type 0
IsVerdict clauses (Ok done) = All IsMet clauses
IsVerdict clauses (Err error) = IsFirstUnmet clauses error
