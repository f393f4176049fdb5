-- A table of rows refuses nothing exactly if each marked row is met, so weaker rows refuse no more.
use Rattle.std.proofs.Common.{◌≡◌, ◌≤◌, ℕ, Bool, true, false, List, [], ◌∷◌, Result, Ok, Err, refl, sym, ◌∙◌, arith}
use Rattle.std.specs.Prelude.{map, nat_le}
use Rattle.std.proofs.lemmas.Bool.Decides.{nat_tests}
use Rattle.iceoryx2_rounds.specs.Verdict.{SettingRow, verdict, marked_clauses, and_then, at_least, flag_is, number_is, span_is}
use Rattle.iceoryx2_rounds.proofs.Verdicts.{row_decides, no_row}
use Rattle.iceoryx2_rounds.proofs.MetRows.{then_more}
use Rattle.iceoryx2_rounds.specs.Rows.{Row, AtLeast, SameFlag, SameNumber, SameSpan, tested, row_clauses, AsksNoMore, AskNoMore}

-- where it is asked for, it is met
abbrev pub IsMetRow : {E : Type 0} → SettingRow E → Type 0
IsMetRow row = row.is_marked ≡ true → row.clause.is_met ≡ true

abbrev pub AreMetRows : {E : Type 0} → List (SettingRow E) → Type 0
AreMetRows [] = Unit {0}
AreMetRows (row ∷ rows) = IsMetRow row × AreMetRows rows

accepted_by : {E : Type 0} (row : SettingRow E) (marked met : Bool) → row.is_marked ≡ marked → row.clause.is_met ≡ met
    → IsMetRow row → verdict (marked_clauses (row ∷ [])) ≡ Ok tt
unfolding verdict marked_clauses
accepted_by row true true e k h = rw (e, k) refl
accepted_by row true false e k h = let j = h e in absurd (cc)
accepted_by row false met e k h = rw e refl

met_by : {E : Type 0} (row : SettingRow E) (met : Bool) → row.clause.is_met ≡ met
    → verdict (marked_clauses (row ∷ [])) ≡ Ok tt → IsMetRow row
unfolding verdict marked_clauses
met_by row true k h marked = k
met_by row false k h marked = let j = rw (marked, k) at h in absurd (cc)

pub both : {E : Type 0} (v w : Result (Unit {0}) E) → and_then v w ≡ Ok tt → (v ≡ Ok tt) × (w ≡ Ok tt)
both (Ok u) w h = (refl, h)
both (Err e) w h = absurd (cc)

-- rows that are met are accepted
pub accepted : {E : Type 0} (rows : List (SettingRow E)) → AreMetRows rows → verdict (marked_clauses rows) ≡ Ok tt
accepted [] met = no_row
accepted (row ∷ rows) met = then_more row rows (accepted_by row row.is_marked row.clause.is_met refl refl met.0) (accepted rows met.1)

-- and rows that are accepted are met
pub are_met : {E : Type 0} (rows : List (SettingRow E)) → verdict (marked_clauses rows) ≡ Ok tt → AreMetRows rows
are_met [] h = tt
are_met (row ∷ rows) h =
    let parts = both _ _ (sym (row_decides row rows) ∙ h) in (met_by row row.clause.is_met refl parts.0, are_met rows parts.1)

lower : (v w x : ℕ) → v ≤ w → nat_le w x ≡ true → nat_le v x ≡ true
lower v w x h k = grind (arith, nat_tests, h, k)

weaker_row : {E : Type 0} (weaker stronger : Row E) → AsksNoMore weaker stronger → IsMetRow (tested stronger) → IsMetRow (tested weaker)
unfolding at_least flag_is number_is span_is
weaker_row (AtLeast m x a e) (AtLeast n y b f) asks h = λ marked. let asked = asks marked in rw (asked.1) (lower a b y asked.2 (h asked.0))
weaker_row (SameFlag m x a e) (SameFlag n y b f) asks h = λ marked. let asked = asks marked in rw (asked.1, asked.2) (h asked.0)
weaker_row (SameNumber m x a e) (SameNumber n y b f) asks h = λ marked. let asked = asks marked in rw (asked.1, asked.2) (h asked.0)
weaker_row (SameSpan m x a e) (SameSpan n y b f) asks h = λ marked. let asked = asks marked in rw (asked.1, asked.2) (h asked.0)
weaker_row _ _ asks h = absurd asks

weaker_rows : {E : Type 0} (weaker stronger : List (Row E)) → AskNoMore weaker stronger
    → AreMetRows (map tested stronger) → AreMetRows (map tested weaker)
weaker_rows [] [] asks met = tt
weaker_rows (row ∷ rows) (other ∷ others) asks met = (weaker_row row other asks.0 met.0, weaker_rows rows others asks.1 met.1)
weaker_rows _ _ asks met = absurd asks

-- what is met by what is there is met too where no more is asked for
pub no_more : {E : Type 0} (weaker stronger : List (Row E)) → AskNoMore weaker stronger
    → verdict (row_clauses stronger) ≡ Ok tt → verdict (row_clauses weaker) ≡ Ok tt
no_more weaker stronger asks h = accepted (map tested weaker) (weaker_rows weaker stronger asks (are_met (map tested stronger) h))

-- ---- row by row

-- the verdicts of single rows, in order
abbrev pub by_row : {E : Type 0} → List (SettingRow E) → Result (Unit {0}) E
by_row [] = Ok tt
by_row (row ∷ []) = verdict (marked_clauses (row ∷ []))
by_row (row ∷ rows) = and_then (verdict (marked_clauses (row ∷ []))) (by_row rows)

-- are the verdict of all
pub by_row_is : {E : Type 0} (rows : List (SettingRow E)) → by_row rows ≡ verdict (marked_clauses rows)
by_row_is [] = sym no_row
by_row_is (row ∷ []) = refl
by_row_is (row ∷ (next ∷ rows)) = rw (by_row_is (next ∷ rows)) (sym (row_decides row (next ∷ rows)))
