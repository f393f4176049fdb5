-- A value means one thing at most.
use Rattle.std.proofs.Common.{◌≡◌, ℕ, ◌<◌, ◌++◌, Bool, true, false, ◌||◌, List, [], ◌∷◌, Option, Some, None, Result, Ok, Err, bytes_eq, codes, eqb, refl, sym, ap, subst, ◌∙◌, arith}
use Rattle.std.specs.Char.{digit_value}
use Rattle.std.specs.Str.Parse.{digits_value}
use Rattle.iceoryx2_description.specs.declared.time.ClockFault.{ClockFault}
use Rattle.iceoryx2_description.specs.Span.{Span}
use Rattle.negotiate_lines.specs.Terms.{AreAround, IsNumber}
use Rattle.negotiate_lines.specs.Values.{IsNatural, IsSpanTerm, IsNoneOr, IsClockTerm, IsTruthTerm}
use Rattle.negotiate_lines.specs.Vocabulary.{Gives}
use Rattle.negotiate_lines.proofs.Around.{one_cut}

-- ---- seconds and nanoseconds

pub no_seconds : (value s n : List ℕ) → AreAround 44 value s n → ((k : ℕ) → IsNatural s k → ⊥)
    → (span : Span) → IsSpanTerm value span → ⊥
no_seconds value s n cut none span is =
    none span.seconds (subst (λ (t : List ℕ). IsNatural t span.seconds)
    (one_cut 44 value is.seconds s is.nanoseconds n is.around cut).front is.seconds_are)

pub no_nanoseconds : (value s n : List ℕ) → AreAround 44 value s n
    → ((k : ℕ) → IsNumber 1000000000 n k → ⊥) → (span : Span) → IsSpanTerm value span → ⊥
no_nanoseconds value s n cut none span is =
    none span.nanoseconds (subst (λ (t : List ℕ). IsNumber 1000000000 t span.nanoseconds)
    (one_cut 44 value is.seconds s is.nanoseconds n is.around cut).back is.nanoseconds_are)

-- ---- values

or_true : (b : Bool) → (b || true) ≡ true
or_true true = refl
or_true false = refl

pub false-true : false ≡ true → ⊥
false-true h = absurd cc

pub one_natural : (value : List ℕ) (n m : ℕ) → IsNatural value n → IsNatural value m → n ≡ m
one_natural value n m left right = left.value ∙ sym right.value

pub one_span : (value : List ℕ) (s t : Span) → IsSpanTerm value s → IsSpanTerm value t → s ≡ t
one_span value s t left right =
    let both =
    one_cut 44 value left.seconds right.seconds left.nanoseconds right.nanoseconds left.around right.around in
    let seconds : s.seconds ≡ t.seconds =
    left.seconds_are.value ∙
    ap (λ (w : List ℕ). digits_value 10 w) both.front ∙ sym right.seconds_are.value in
    let nanoseconds : s.nanoseconds ≡ t.nanoseconds =
    left.nanoseconds_are.value ∙
    ap (λ (w : List ℕ). digits_value 10 w) both.back ∙ sym right.nanoseconds_are.value in
    λ i. record { seconds = seconds i; nanoseconds = nanoseconds i }

has_comma : List ℕ → Bool
has_comma [] = false
has_comma (b ∷ bs) = has_comma bs || eqb b 44

comma_between : (front back : List ℕ) → has_comma (front ++ 44 ∷ back) ≡ true
unfolding has_comma
comma_between [] back = or_true (has_comma back)
comma_between (b ∷ front) back = rw (comma_between front back) refl

comma_of_span : (value : List ℕ) (s : Span) → IsSpanTerm value s → has_comma value ≡ true
comma_of_span value s is = ap has_comma is.around.are ∙ comma_between is.seconds is.nanoseconds

pub no_span_none : (s : Span) → IsSpanTerm (codes "none") s → ⊥
unfolding has_comma
no_span_none s is = absurd (false-true (comma_of_span (codes "none") s is))

no_span_fault : (s : Span) → IsSpanTerm (codes "fault") s → ⊥
unfolding has_comma
no_span_fault s is = absurd (false-true (comma_of_span (codes "fault") s is))

n_is_no_digit : digit_value 110 < 10 → ⊥
n_is_no_digit h = absurd (omega (arith, h))

pub no_natural_none : (n : ℕ) → IsNatural (codes "none") n → ⊥
no_natural_none n is = n_is_no_digit is.numeral.1.0

module _ {A : Type 0} (IsSuch : List ℕ → A → Type 0) (one : (value : List ℕ)
    (a b : A) → IsSuch value a → IsSuch value b → a ≡ b) where
  pub one_given : {S : Type 0} (sets : A → S) (value : List ℕ) (s t : S) → Gives IsSuch sets value s
      → Gives IsSuch sets value t → s ≡ t
  one_given sets value s t (a, is_such, e) (b, others, f) = e ∙ ap sets (one value a b is_such others) ∙ sym f

  pub one_or_none : ((a : A) → IsSuch (codes "none") a → ⊥) → (value : List ℕ) (a b : Option A)
      → IsNoneOr IsSuch value a → IsNoneOr IsSuch value b → a ≡ b
  one_or_none never value None None left right = refl
  one_or_none never value None (Some b) left right = absurd (never b (subst (λ (v : List ℕ). IsSuch v b) left right))
  one_or_none never value (Some a) None left right = absurd (never a (subst (λ (v : List ℕ). IsSuch v a) right left))
  one_or_none never value (Some a) (Some b) left right = ap (λ (x : A). Some x) (one value a b left right)

pub one_natural_or_none : (value : List ℕ) (a b : Option ℕ) → IsNoneOr IsNatural value a → IsNoneOr IsNatural value b
    → a ≡ b
one_natural_or_none = one_or_none IsNatural one_natural no_natural_none

pub one_span_or_none : (value : List ℕ) (a b : Option Span) → IsNoneOr IsSpanTerm value a → IsNoneOr IsSpanTerm value b
    → a ≡ b
one_span_or_none = one_or_none IsSpanTerm one_span no_span_none

pub one_clock : (value : List ℕ) (a b : Result Span ClockFault) → IsClockTerm value a → IsClockTerm value b
    → a ≡ b
one_clock value (Ok s) (Ok t) left right = ap (λ (x : Span). Ok x) (one_span value s t left right)
one_clock value (Ok s) (Err f) left right =
    absurd (no_span_fault s (subst (λ (v : List ℕ). IsSpanTerm v s) right left))
one_clock value (Err f) (Ok t) left right =
    absurd (no_span_fault t (subst (λ (v : List ℕ). IsSpanTerm v t) left right))
one_clock value (Err f) (Err g) left right = refl

true_term_false_term : codes "true" ≡ codes "false" → ⊥
true_term_false_term e = false-true (ap (λ (w : List ℕ). bytes_eq w (codes "false")) e)

pub one_truth : (value : List ℕ) (a b : Bool) → IsTruthTerm value a → IsTruthTerm value b → a ≡ b
one_truth value true true left right = refl
one_truth value true false left right = absurd (true_term_false_term (sym left ∙ right))
one_truth value false true left right = absurd (true_term_false_term (sym right ∙ left))
one_truth value false false left right = refl
