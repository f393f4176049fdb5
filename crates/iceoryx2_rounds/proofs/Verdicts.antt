use Rattle.std.proofs.Common.{◌≡◌, Bool, true, false, List, [], ◌∷◌, ◌++◌, Result, Ok, Err, refl, sym, subst, ap, arith, All}
use Rattle.std.proofs.lemmas.List.Elements.{All-cons}
use Rattle.iceoryx2_rounds.specs.Verdict.{Clause, SettingRow, verdict, marked_clauses, and_then, IsMet, IsVerdict, IsFirstUnmet}

passes : {E : Type 0} (c : Clause E) (cs : List (Clause E)) (met : Bool) → c.is_met ≡ met → verdict (c ∷ []) ≡ Ok tt → verdict (c ∷ cs) ≡ verdict cs
unfolding verdict
passes c cs true e h = rw e refl
passes c cs false e h = let k = rw e at h in cc

fails : {E : Type 0} (c : Clause E) (cs : List (Clause E)) (error : E) (met : Bool) → c.is_met ≡ met → verdict (c ∷ []) ≡ Err error → verdict (c ∷ cs) ≡ Err error
unfolding verdict
fails c cs error true e h = let k = rw e at h in cc
fails c cs error false e h = let k = rw e at h in rw e k

passes_row : {E : Type 0} (row : SettingRow E) (rows : List (SettingRow E)) (marked : Bool) → row.is_marked ≡ marked → verdict (marked_clauses (row ∷ [])) ≡ Ok tt → verdict (marked_clauses (row ∷ rows)) ≡ verdict (marked_clauses rows)
unfolding marked_clauses
passes_row row rows true e h = let k = rw e at h in rw e (passes row.clause (marked_clauses rows) row.clause.is_met refl k)
passes_row row rows false e h = rw e refl

fails_row : {E : Type 0} (row : SettingRow E) (rows : List (SettingRow E)) (error : E) (marked : Bool) → row.is_marked ≡ marked → verdict (marked_clauses (row ∷ [])) ≡ Err error → verdict (marked_clauses (row ∷ rows)) ≡ Err error
unfolding marked_clauses verdict
fails_row row rows error true e h = let k = rw e at h in rw e (fails row.clause (marked_clauses rows) error row.clause.is_met refl k)
fails_row row rows error false e h = let k = rw e at h in cc

by_verdict : {E : Type 0} (row : SettingRow E) (rows : List (SettingRow E)) (v : Result (Unit {0}) E) → verdict (marked_clauses (row ∷ [])) ≡ v → verdict (marked_clauses (row ∷ rows)) ≡ and_then v (verdict (marked_clauses rows))
by_verdict row rows (Ok u) h = passes_row row rows row.is_marked refl h
by_verdict row rows (Err e) h = fails_row row rows e row.is_marked refl h

-- a row decides alone, or leaves it to the others
pub row_decides : {E : Type 0} (row : SettingRow E) (rows : List (SettingRow E)) → verdict (marked_clauses (row ∷ rows)) ≡ and_then (verdict (marked_clauses (row ∷ []))) (verdict (marked_clauses rows))
row_decides row rows = by_verdict row rows _ refl

-- no row refuses nothing
pub no_row : {E : Type 0} → verdict {E = E} (marked_clauses []) ≡ Ok tt
unfolding verdict marked_clauses
no_row = refl

append_by : {E : Type 0} (x : Clause E) (xs ys : List (Clause E)) (met : Bool) → x.is_met ≡ met → verdict (xs ++ ys) ≡ and_then (verdict xs) (verdict ys) → verdict ((x ∷ xs) ++ ys) ≡ and_then (verdict (x ∷ xs)) (verdict ys)
unfolding verdict
append_by x xs ys true e h = rw e h
append_by x xs ys false e h = rw e refl

-- two lists of clauses, one after the other
pub verdict_append : {E : Type 0} (xs ys : List (Clause E)) → verdict (xs ++ ys) ≡ and_then (verdict xs) (verdict ys)
unfolding verdict
verdict_append [] ys = refl
verdict_append (x ∷ xs) ys = append_by x xs ys x.is_met refl (verdict_append xs ys)

all_of_none : {E : Type 0} → All (IsMet {E = E}) []
all_of_none k d h = absurd (omega arith)

more : {E : Type 0} (c : Clause E) (cs : List (Clause E)) (v : Result (Unit {0}) E) → c.is_met ≡ true → IsVerdict cs v → IsVerdict (c ∷ cs) v
more c cs (Ok u) e h = All-cons IsMet c cs e h
more c cs (Err error) e h = record {
  front = c ∷ h.front;
  unmet = h.unmet;
  back = h.back;
  in_order = ap (λ l. c ∷ l) h.in_order;
  met_before = All-cons IsMet c h.front e h.met_before;
  not_met = h.not_met;
  its_error = h.its_error;
}

met_step : {E : Type 0} (c : Clause E) (cs : List (Clause E)) → c.is_met ≡ true → verdict (c ∷ cs) ≡ verdict cs
unfolding verdict
met_step c cs e = rw e refl

unmet_step : {E : Type 0} (c : Clause E) (cs : List (Clause E)) → c.is_met ≡ false → verdict (c ∷ cs) ≡ Err c.error
unfolding verdict
unmet_step c cs e = rw e refl

first_unmet : {E : Type 0} (c : Clause E) (cs : List (Clause E)) → c.is_met ≡ false → IsFirstUnmet (c ∷ cs) c.error
first_unmet c cs e = record { front = []; unmet = c; back = cs; in_order = refl; met_before = all_of_none; not_met = e; its_error = refl }

is_by : {E : Type 0} (c : Clause E) (cs : List (Clause E)) (met : Bool) → c.is_met ≡ met → IsVerdict cs (verdict cs) → IsVerdict (c ∷ cs) (verdict (c ∷ cs))
is_by c cs true e h = subst (λ v. IsVerdict (c ∷ cs) v) (sym (met_step c cs e)) (more c cs (verdict cs) e h)
is_by c cs false e h = subst (λ v. IsVerdict (c ∷ cs) v) (sym (unmet_step c cs e)) (first_unmet c cs e)

-- the verdict is the one that `IsVerdict` tells
pub verdict_is : {E : Type 0} (clauses : List (Clause E)) → IsVerdict clauses (verdict clauses)
unfolding verdict
verdict_is [] = all_of_none
verdict_is (c ∷ cs) = is_by c cs c.is_met refl (verdict_is cs)

-- no clause refuses nothing
pub none_refused : {E : Type 0} → verdict {E = E} [] ≡ Ok tt
unfolding verdict
none_refused = refl
