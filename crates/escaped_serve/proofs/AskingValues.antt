-- What is written of a value means the value.
use Rattle.std.proofs.Common.{◌≡◌, ◌≢◌, ℕ, zero, suc, ◌<◌, ◌≤◌, ◌^◌, Bool, true, false, cond, eqb, List, [], ◌∷◌, length, decimal, Some, None, refl, sym, arith}
use Rattle.std.specs.Prelude.{slice_index}
use Rattle.std.specs.Str.Parse.{AllDigits}
use Rattle.std.proofs.lemmas.Bool.{eq-eqb}
use Rattle.std.proofs.lemmas.Fmt.{decimal_is_IsNumeral}
use Rattle.std.proofs.lemmas.Str.{IsUtf8-from_is_utf8}
use Rattle.std.proofs.lemmas.Str.Parse.{numerals_by_value, tells_digits, not_in_digits}
use Rattle.iceoryx2_types.specs.declared.types.TypeVariant.{TypeVariant}
use Rattle.iceoryx2_types.specs.declared.types.TypeVariant.TheVariants.{FixedSize, Dynamic}
use Rattle.iceoryx2_types.specs.Types.{Detail}
use Rattle.iceoryx2_description.specs.Messages.{IsMeasured}
use Rattle.iceoryx2_description.specs.Span.{IsSpan, Span}
use Rattle.negotiate_lines.specs.declared.leaf.Form.TheVariants as form
use Rattle.negotiate_lines.specs.Leaves.{leaf_of}
use Rattle.negotiate_lines.specs.Terms.{AreAround, IsNumber}
use Rattle.negotiate_lines.specs.Values.{IsNatural, IsSpanTerm, IsTruthTerm, IsVariantTerm, AreParts, IsDetailTerm}
use Rattle.negotiate_lines.specs.Vocabulary.{Takes, number, truth, event, time, alignment, type, Sets}
use Rattle.escaped_serve.specs.Asking.{IsValue, ValueOf, joined, setter_with, time_text, truth_text, type_text, value_text, variant_text}
use Rattle.negotiate_lines.proofs.LeavesBack.{back}
use Rattle.negotiate_lines.proofs.LeavesPlain.{plain}

-- ---- what stands around a byte

abbrev pub Lacks : ℕ → List ℕ → Type 0
Lacks c text = (i : ℕ) → i < length text → slice_index text i ≢ c

pub around : (c : ℕ) (front back : List ℕ) → Lacks c front → AreAround c (joined c front back) front back
around c front back lacks = record { are = refl; first = lacks }

-- the byte stands nowhere there, as a test
unfoldable pub lacks : ℕ → List ℕ → Bool
lacks c [] = true
lacks c (b ∷ text) = cond (eqb b c) false (lacks c text)

lacks_first : (c b : ℕ) (text : List ℕ) → lacks c (b ∷ text) ≡ true → b ≡ c → ⊥
unfolding lacks
lacks_first c b text h same = absurd (let wrong = rw (eq-eqb b c same) at h in cc)

lacks_others : (c b : ℕ) (text : List ℕ) → lacks c (b ∷ text) ≡ true → lacks c text ≡ true
unfolding lacks
lacks_others c b text h = by_test (eqb b c) h
  where
    by_test : (t : Bool) → cond t false (lacks c text) ≡ true → lacks c text ≡ true
    by_test true e = absurd cc
    by_test false e = e

pub tested : (c : ℕ) (text : List ℕ) → lacks c text ≡ true → Lacks c text
tested c [] h i within e = absurd (omega (arith, within))
tested c (b ∷ text) h zero within e = lacks_first c b text h e
tested c (b ∷ text) h (suc i) within e = tested c text (lacks_others c b text h) i (omega (arith, within)) e

-- ---- numbers

pub number_shown : (limit n : ℕ) → n < limit → limit ≤ 2 ^ 64 → IsNumber limit (decimal n) n
number_shown limit n small low =
    let is = decimal_is_IsNumeral n (omega (arith, small, low)) in record { numeral = is.0; value = sym is.1; fits = small }

pub natural_shown : (n : ℕ) → n < 2 ^ 64 → IsNatural (decimal n) n
natural_shown n small = number_shown (2 ^ 64) n small (omega arith)

no_comma : (n : ℕ) → n < 2 ^ 64 → Lacks 44 (decimal n)
no_comma n small =
    not_in_digits (numerals_by_value (AllDigits 10) tells_digits) (decimal n) 44 (decimal_is_IsNumeral n small).0.1
    (λ h. omega (arith, h))

span_shown : (s : Span) → IsSpan s → IsSpanTerm (time_text s) s
span_shown s is = record {
  seconds = decimal s.seconds;
  nanoseconds = decimal s.nanoseconds;
  around = around 44 (decimal s.seconds) (decimal s.nanoseconds) (no_comma s.seconds is.0);
  seconds_are = natural_shown s.seconds is.0;
  nanoseconds_are = number_shown 1000000000 s.nanoseconds is.1 (omega arith);
}

truth_shown : (b : Bool) → IsTruthTerm (truth_text b) b
truth_shown true = refl
truth_shown false = refl

-- ---- types

variant_shown : (v : TypeVariant) → IsVariantTerm (variant_text v) v
variant_shown FixedSize = refl
variant_shown Dynamic = refl

variant_lacks : (v : TypeVariant) → lacks 44 (variant_text v) ≡ true
unfolding lacks
variant_lacks FixedSize = refl
variant_lacks Dynamic = refl

leaf_lacks_comma : (text : List ℕ) → Lacks 44 (leaf_of text)
leaf_lacks_comma text i within e = (plain text i 0 within).no_comma e

pub leaf_lacks_colon : (text : List ℕ) → Lacks 58 (leaf_of text)
leaf_lacks_colon text i within e = (plain text i 0 within).no_colon e

parts_shown : (first second third fourth : List ℕ) → Lacks 44 first → Lacks 44 second → Lacks 44 third
    → AreParts (joined 44 first (joined 44 second (joined 44 third fourth))) first second third fourth
parts_shown first second third fourth one two three = record {
  behind_first = joined 44 second (joined 44 third fourth);
  behind_second = joined 44 third fourth;
  around_first = around 44 first (joined 44 second (joined 44 third fourth)) one;
  around_second = around 44 second (joined 44 third fourth) two;
  around_third = around 44 third fourth three;
}

type_shown : (d : Detail) → IsMeasured d → IsDetailTerm form.Escaped (type_text d) d
type_shown d is = record {
  variant = variant_text d.variant;
  name = leaf_of d.name;
  size = decimal d.size;
  alignment = decimal d.alignment;
  parts = parts_shown (variant_text d.variant) (leaf_of d.name) (decimal d.size) (decimal d.alignment)
      (tested 44 (variant_text d.variant) (variant_lacks d.variant)) (leaf_lacks_comma d.name) (no_comma d.size is.size);
  variant_is = variant_shown d.variant;
  text_is = back d.name (IsUtf8-from_is_utf8 d.name is.detail.name.utf8);
  name_is = (is.detail.name.long, is.detail.name.short);
  size_is = natural_shown d.size is.size;
  alignment_is = (natural_shown d.alignment is.alignment, is.detail.alignment);
}

-- ---- any of them

pub value_shown : {S : Type 0} (takes : Takes S) (value : ValueOf takes) → IsValue takes value
    → Sets form.Escaped takes (value_text takes value) (setter_with takes value)
value_shown (number setter) n is = (n, natural_shown n is, refl)
value_shown (truth setter) b is = (b, truth_shown b, refl)
value_shown (event setter) None is = (None, refl, refl)
value_shown (event setter) (Some n) is = (Some n, natural_shown n is, refl)
value_shown (time setter) None is = (None, refl, refl)
value_shown (time setter) (Some s) is = (Some s, span_shown s is, refl)
value_shown (alignment setter) n is = (n, (natural_shown n is.1, is.0), refl)
value_shown (type setter) d is = (d, type_shown d is, refl)
