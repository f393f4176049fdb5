-- With which error a verdict refuses: with that of a clause.
use Rattle.std.proofs.Common.{◌≡◌, Bool, true, false, List, [], ◌∷◌, ◌++◌, Err, refl, subst}
use Rattle.std.specs.Prelude.{map}
use Rattle.iceoryx2_attribute.specs.Attributes.{Pair}
use Rattle.iceoryx2_attribute.specs.Requirements.{Requirements}
use Rattle.iceoryx2_access.specs.Run.{Each}
use Rattle.iceoryx2_access.proofs.Run.{each_append}
use Rattle.iceoryx2_rounds.specs.OwnAttributes.{attribute_clauses, pair_clause, key_clause}
use Rattle.iceoryx2_rounds.specs.Verdict.{Clause, SettingRow, marked_clauses, verdict, IsFirstUnmet, IsVerdict}
use Rattle.iceoryx2_rounds.proofs.Verdicts.{verdict_is}

-- each clause has such an error, and each row
abbrev pub Errs : {E : Type 0} → (E → Type 0) → List (Clause E) → Type 0
Errs P clauses = Each (λ c. P c.error) clauses

abbrev pub RowsErr : {E : Type 0} → (E → Type 0) → List (SettingRow E) → Type 0
RowsErr P rows = Each (λ r. P r.clause.error) rows

among : {A : Type 0} (P : A → Type 0) (front : List A) (x : A) (back : List A) → Each P (front ++ x ∷ back) → P x
among P [] x back each = each.0
among P (y ∷ front) x back each = among P front x back each.1

-- so what is so of each clause's error is so of the verdict's
pub unmet_ends : {E : Type 0} (P : E → Type 0) (clauses : List (Clause E)) (error : E) → Errs P clauses → verdict clauses ≡ Err error → P error
unmet_ends P clauses error each e =
    let first : IsFirstUnmet clauses error = subst (IsVerdict clauses) e (verdict_is clauses) in
    subst P first.its_error (among (λ c. P c.error) first.front first.unmet first.back (subst (Errs P) first.in_order each))

pub both_err : {E : Type 0} (P : E → Type 0) (front back : List (Clause E)) → Errs P front → Errs P back → Errs P (front ++ back)
both_err P front back a b = each_append (λ c. P c.error) front back a b

all_err : {A E : Type 0} (P : E → Type 0) (clause : A → Clause E) → ((x : A) → P (clause x).error) → (xs : List A) → Errs P (map clause xs)
all_err P clause each [] = tt
all_err P clause each (x ∷ xs) = (each x, all_err P clause each xs)

-- attributes have one error,
pub attributes_err : {E : Type 0} (P : E → Type 0) (error : E) (required : Requirements) (existing : List Pair) → P error → Errs P (attribute_clauses error required existing)
attributes_err P error required existing p =
    both_err P (map (pair_clause error existing) required.pairs) (map (key_clause error existing) required.keys)
    (all_err P (pair_clause error existing) (λ pair. p) required.pairs) (all_err P (key_clause error existing) (λ key. p) required.keys)

row_errs : {E : Type 0} (P : E → Type 0) (r : SettingRow E) (rows : List (SettingRow E)) (marked : Bool) → r.is_marked ≡ marked → P r.clause.error → Errs P (marked_clauses rows) → Errs P (marked_clauses (r ∷ rows))
unfolding marked_clauses
row_errs P r rows true e p later = rw e (p, later)
row_errs P r rows false e p later = rw e later

no_row_errs : {E : Type 0} (P : E → Type 0) → Errs P (marked_clauses [])
unfolding marked_clauses
no_row_errs P = tt

-- and each setting's row its own
pub rows_err : {E : Type 0} (P : E → Type 0) (rows : List (SettingRow E)) → RowsErr P rows → Errs P (marked_clauses rows)
rows_err P [] each = no_row_errs P
rows_err P (r ∷ rows) each = row_errs P r rows r.is_marked refl each.0 (rows_err P rows each.1)
