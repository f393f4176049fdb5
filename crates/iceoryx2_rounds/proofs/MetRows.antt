-- Rows of settings that are met: each is, marked or not, where its test passes.
use Rattle.std.proofs.Common.{◌≡◌, ℕ, Bool, true, false, List, [], ◌∷◌, Option, Some, None, Ok, refl, ap, ◌∙◌, arith}
use Rattle.std.specs.Prelude.{nat_eq, nat_le}
use Rattle.std.proofs.lemmas.Bool.Decides.{nat_tests}
use Rattle.iceoryx2_description.specs.Span.{Span}
use Rattle.iceoryx2_rounds.specs.Verdict.{SettingRow, verdict, marked_clauses, at_least, flag_is, number_is, span_is, and_then}
use Rattle.iceoryx2_rounds.specs.Verdict.{is_same_flag, is_same_number, is_same_span}
use Rattle.iceoryx2_rounds.proofs.Verdicts.{row_decides}

pub offers : {E : Type 0} (marked : Bool) (existing required : ℕ) (e : E) → nat_le required existing ≡ true
    → verdict (marked_clauses (at_least marked existing required e ∷ [])) ≡ Ok tt
unfolding verdict marked_clauses at_least
offers true x r e h = rw h refl
offers false x r e h = refl

pub keeps : {E : Type 0} (marked existing required : Bool) (e : E) → is_same_flag existing required ≡ true
    → verdict (marked_clauses (flag_is marked existing required e ∷ [])) ≡ Ok tt
unfolding verdict marked_clauses flag_is
keeps true x r e h = rw h refl
keeps false x r e h = refl

pub sends : {E : Type 0} (marked : Bool) (existing required : Option ℕ) (e : E) → is_same_number existing required ≡ true
    → verdict (marked_clauses (number_is marked existing required e ∷ [])) ≡ Ok tt
unfolding verdict marked_clauses number_is
sends true x r e h = rw h refl
sends false x r e h = refl

pub lasts : {E : Type 0} (marked : Bool) (existing required : Option Span) (e : E) → is_same_span existing required ≡ true
    → verdict (marked_clauses (span_is marked existing required e ∷ [])) ≡ Ok tt
unfolding verdict marked_clauses span_is
lasts true x r e h = rw h refl
lasts false x r e h = refl

pub then_more : {E : Type 0} (row : SettingRow E) (rows : List (SettingRow E)) → verdict (marked_clauses (row ∷ [])) ≡ Ok tt
    → verdict (marked_clauses rows) ≡ Ok tt → verdict (marked_clauses (row ∷ rows)) ≡ Ok tt
then_more row rows h k = row_decides row rows ∙ ap (λ v. and_then v (verdict (marked_clauses rows))) h ∙ k

-- each value passes its test against itself
pub not_less : (n : ℕ) → nat_le n n ≡ true
not_less n = grind (arith, nat_tests)

pub same_number : (n : ℕ) → nat_eq n n ≡ true
same_number n = grind (arith, nat_tests)

pub same_flag : (b : Bool) → is_same_flag b b ≡ true
same_flag true = refl
same_flag false = refl

pub same_choice : (n : Option ℕ) → is_same_number n n ≡ true
same_choice None = refl
same_choice (Some n) = same_number n
