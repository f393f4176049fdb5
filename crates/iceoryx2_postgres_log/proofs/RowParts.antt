-- The parts of a row's line.
use Rattle.std.proofs.Common.{◌≡◌, ℕ, List, [], ◌∷◌, ◌++◌, ap, sym, ◌∙◌, append_assoc, decimal, codes, length, Ok}
use Rattle.std.specs.List.{IsSplitAt}
use Rattle.hex.specs.Hex.{decode_of}
use Rattle.iceoryx2_postgres_log.specs.declared.row.Row.{Row}
use Rattle.std.proofs.Common.{◌+◌, ◌<◌, subst, take, get_or, arith, length-take-le}
use Rattle.std.proofs.lemmas.List.{take_more}
use Rattle.iceoryx2_postgres_log.proofs.Parts.{parts_of}
use Rattle.iceoryx2_postgres_log.specs.Rows.{IsPlace, IsRow, AreRows}

pub place_is : (number : ℕ) (text front sum : List ℕ) → front ≡ decimal number ++ codes " " → text ≡ front ++ sum
    → length sum ≡ 64 → IsPlace number text
place_is number text front sum f is long = record {
  sum = sum;
  long = long;
  is = is ∙ ap (λ l. l ++ sum) f;
}

pub line_is : (line front rest sum after digits place : List ℕ) → line ≡ front ++ rest → rest ≡ sum ++ after
    → after ≡ 32 ∷ digits → place ≡ front ++ sum → line ≡ place ++ 32 ∷ digits
line_is line front rest sum after digits place e f g p =
    e ∙ ap (λ l. front ++ l) (f ∙ ap (λ l. sum ++ l) g) ∙ sym (append_assoc front sum (32 ∷ digits))
    ∙ ap (λ l. l ++ 32 ∷ digits) (sym p)

pub row_is : (number : ℕ) (line front rest sum after digits : List ℕ) (row : Row) → front ≡ decimal number ++ codes " "
    → line ≡ front ++ rest → IsSplitAt rest 64 sum after → after ≡ 32 ∷ digits → row.place ≡ front ++ sum
    → decode_of digits ≡ Ok row.form → row.number ≡ number → IsRow number line row
row_is number line front rest sum after digits row f e split g p form n = record {
  number_is = n;
  place = place_is number row.place front sum f p split.3;
  digits = digits;
  is = line_is line front rest sum after digits row.place e (parts_of rest sum after 64 split) g p;
  form = form;
}

-- one more line tells one more row
pub rows_push : (n m : ℕ) (lines : List (List ℕ)) (rows : List Row) (line : List ℕ) (row : Row) → AreRows n lines rows
    → m ≡ n + length lines + 1 → IsRow m line row → AreRows n (lines ++ line ∷ []) (rows ++ row ∷ [])
rows_push n m [] [] line row h e is =
    let at : m ≡ n + 1 = omega (arith, e) in (subst (λ k. IsRow k line row) at is, tt)
rows_push n m [] (r ∷ rows) line row h e is = absurd h
rows_push n m (l ∷ lines) [] line row h e is = absurd h
rows_push n m (l ∷ lines) (r ∷ rows) line row h e is =
    let at : m ≡ n + 1 + length lines + 1 = omega (arith, e) in (h.0, rows_push (n + 1) m lines rows line row h.1 at is)

pub rows_next : (n m i : ℕ) (lines : List (List ℕ)) (old new : List Row) (line : List ℕ) (row : Row)
    → AreRows n (take i lines) old → i < length lines → line ≡ get_or lines i line → m ≡ n + i + 1 → IsRow m line row
    → new ≡ old ++ row ∷ [] → AreRows n (take (i + 1) lines) new
rows_next n m i lines old new line row h below item e is grown =
    let long : length (take i lines) ≡ i = length-take-le i lines (omega (arith, below)) in
    let at : m ≡ n + length (take i lines) + 1 = omega (arith, e, long) in
    let all : AreRows n (take i lines ++ line ∷ []) (old ++ row ∷ []) = rows_push n m (take i lines) old line row h at is in
    let lines_are : take (i + 1) lines ≡ take i lines ++ line ∷ [] =
    take_more lines i line below ∙ ap (λ l. take i lines ++ l ∷ []) (sym item) in
    subst (λ l. AreRows n l new) (sym lines_are) (subst (AreRows n (take i lines ++ line ∷ [])) (sym grown) all)
