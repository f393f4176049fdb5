-- The copies of a snapshot's entries.
use Rattle.std.proofs.Common.{◌≡◌, ◌+◌, ◌<◌, ℕ, List, [], ◌∷◌, ◌++◌, take, length, get_or, refl, ap, sym, ◌∙◌, append_assoc, subst}
use Rattle.std.proofs.lemmas.List.{take_more}
use Rattle.iceoryx2_log.specs.declared.entry.Entry.{Entry}
use Rattle.iceoryx2_log.specs.Form.{IsForm}
use Rattle.iceoryx2_postgres_log.specs.declared.row.Row.{Row}
use Rattle.iceoryx2_postgres_log.specs.declared.standing.Standing.{Standing}
use Rattle.iceoryx2_postgres_log.specs.Compacting.{AreForms, forms_in, past, past_all}

pub forms-push : (entries : List Entry) (forms : List (List ℕ)) (e : Entry) (form : List ℕ) → AreForms entries forms
    → IsForm e form → AreForms (entries ++ e ∷ []) (forms ++ form ∷ [])
forms-push [] [] e form a f = (f, tt)
forms-push [] (g ∷ forms) e form a f = absurd a
forms-push (d ∷ entries) [] e form a f = absurd a
forms-push (d ∷ entries) (g ∷ forms) e form a f = (a.0, forms-push entries forms e form a.1 f)

pub forms-next : (i : ℕ) (entries : List Entry) (old new : List (List ℕ)) (e : Entry) (form : List ℕ)
    → AreForms (take i entries) old → i < length entries → e ≡ get_or entries i e → IsForm e form → new ≡ old ++ form ∷ []
    → AreForms (take (i + 1) entries) new
forms-next i entries old new e form a below item f grown =
    let entries_are : take (i + 1) entries ≡ take i entries ++ e ∷ [] =
    take_more entries i e below ∙ ap (λ l. take i entries ++ l ∷ []) (sym item) in
    subst (λ l. AreForms l new) (sym entries_are)
    (subst (AreForms (take i entries ++ e ∷ [])) (sym grown) (forms-push (take i entries) old e form a f))

pub forms_in-push : (rows : List Row) (row : Row) → forms_in (rows ++ row ∷ []) ≡ forms_in rows ++ row.form ∷ []
forms_in-push [] row = refl
forms_in-push (r ∷ rows) row = ap (λ l. r.form ∷ l) (forms_in-push rows row)

pub past_all-push : (at : Standing) (rows : List Row) (row : Row) → past_all at (rows ++ row ∷ []) ≡ past (past_all at rows) row
past_all-push at [] row = refl
past_all-push at (r ∷ rows) row = past_all-push (past at r) rows row

-- one more copy is taken: it holds the next form
abbrev pub Taken : (rows rest : List Row) (forms : List (List ℕ)) (i : ℕ) (old new : Standing) → Type 0
Taken rows rest forms i old new =
    (done : List Row) × (rows ≡ done ++ rest) × (forms_in done ≡ take i forms) × (new ≡ past_all old done)

pub taken-next : (rows rest rest' : List Row) (forms : List (List ℕ)) (i : ℕ) (old at at' : Standing) (row : Row)
    (form : List ℕ) → Taken rows rest forms i old at → rest ≡ row ∷ rest' → i < length forms → form ≡ get_or forms i form
    → row.form ≡ form → at' ≡ past at row → Taken rows rest' forms (i + 1) old at'
taken-next rows rest rest' forms i old at at' row form t popped below item same is =
    let done : List Row = t.0 in
    let split : rows ≡ (done ++ row ∷ []) ++ rest' =
    t.1 ∙ ap (λ l. done ++ l) popped ∙ sym (append_assoc done (row ∷ []) rest') in
    let forms_are : forms_in (done ++ row ∷ []) ≡ take (i + 1) forms =
    forms_in-push done row ∙ ap (λ l. l ++ row.form ∷ []) t.2 ∙ ap (λ f. take i forms ++ f ∷ []) same
    ∙ sym (take_more forms i form below ∙ ap (λ l. take i forms ++ l ∷ []) (sym item)) in
    let stands : at' ≡ past_all old (done ++ row ∷ []) =
    is ∙ ap (λ a. past a row) t.3 ∙ sym (past_all-push old done row) in
    (done ++ row ∷ [], split, forms_are, stands)
