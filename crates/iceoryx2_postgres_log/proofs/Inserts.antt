-- The statements of a copy, one after the other.
use Rattle.std.proofs.Common.{◌≡◌, ◌+◌, ◌<◌, ℕ, List, [], ◌∷◌, ◌++◌, take, length, get_or, ap, sym, ◌∙◌, append_assoc, append-nil, arith}
use Rattle.std.proofs.Common.{length-take-le}
use Rattle.std.proofs.lemmas.List.{take_more}
use Rattle.iceoryx2_postgres_log.specs.Questions.{inserting, insertings}

pub insertings-push : (log generation number m : ℕ) (forms : List (List ℕ)) (form : List ℕ) → m ≡ number + length forms + 1
    → insertings log generation number (forms ++ form ∷ [])
    ≡ insertings log generation number forms ++ inserting log generation m form
insertings-push log generation number m [] form e =
    let at : number + 1 ≡ m = omega (arith, e) in
    append-nil (inserting log generation (number + 1) form) ∙ ap (λ k. inserting log generation k form) at
insertings-push log generation number m (f ∷ forms) form e =
    let at : m ≡ number + 1 + length forms + 1 = omega (arith, e) in
    ap (λ l. inserting log generation (number + 1) f ++ l) (insertings-push log generation (number + 1) m forms form at)
    ∙ sym (append_assoc (inserting log generation (number + 1) f) (insertings log generation (number + 1) forms)
    (inserting log generation m form))

pub insertings-next : (log generation number m i : ℕ) (forms : List (List ℕ)) (form old part new : List ℕ)
    → i < length forms → form ≡ get_or forms i form → m ≡ number + i + 1
    → old ≡ insertings log generation number (take i forms) → part ≡ inserting log generation m form → new ≡ old ++ part
    → new ≡ insertings log generation number (take (i + 1) forms)
insertings-next log generation number m i forms form old part new below item e o p n =
    let long : length (take i forms) ≡ i = length-take-le i forms (omega (arith, below)) in
    let at : m ≡ number + length (take i forms) + 1 = omega (arith, e, long) in
    n ∙ ap (λ l. l ++ part) o ∙ ap (λ l. insertings log generation number (take i forms) ++ l) p
    ∙ sym (insertings-push log generation number m (take i forms) form at)
    ∙ ap (insertings log generation number) (sym (take_more forms i form below ∙ ap (λ l. take i forms ++ l ∷ []) (sym item)))
