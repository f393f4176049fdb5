-- What is written is printable ASCII without blanks.
use Rattle.std.proofs.Common.{◌≡◌, ℕ, ◌<◌, ◌≤◌, ◌^◌, Bool, true, false, ◌&&◌, nat_le, List, [], ◌∷◌, ◌++◌, All, Some, None, decimal, codes, length, refl, arith}
use Rattle.std.specs.Str.{all_ascii_digits}
use Rattle.std.specs.Str.Parse.{digits_value}
use Rattle.std.proofs.lemmas.Bool.{and_from, le-leb}
use Rattle.std.proofs.lemmas.Bool.Decides.{nat_tests}
use Rattle.std.proofs.lemmas.Fmt.{decimal_nonempty, digits_decimal}
use Rattle.std.proofs.lemmas.Str.Parse.{IsNumeralModel, numerals_by_value, tells_all_ascii_digits}
use Rattle.std.proofs.lemmas.List.Elements.{All-head, All-tail}
use Rattle.iceoryx2_types.specs.declared.types.TypeVariant.{TypeVariant}
use Rattle.iceoryx2_types.specs.declared.types.TypeVariant.TheVariants.{FixedSize, Dynamic}
use Rattle.iceoryx2_types.specs.Types.{Detail}
use Rattle.iceoryx2_attribute.specs.Attributes.{Pair}
use Rattle.iceoryx2_description.specs.Messages.{IsMeasured}
use Rattle.iceoryx2_description.specs.Span.{IsSpan, Span}
use Rattle.negotiate_lines.specs.Leaves.{IsPlain, leaf_of}
use Rattle.negotiate_lines.specs.Vocabulary.{Takes, number, truth, event, time, alignment, type}
use Rattle.escaped_serve.specs.Asking.{IsValue, ValueOf, joined, pair_word, term_text, time_text, type_text, value_text, variant_text}
use Rattle.negotiate_lines.proofs.LeavesPlain.{plain, some}

-- one byte at least, each from 33 to 126
unfoldable pub graphic_all : List ℕ → Bool
graphic_all [] = true
graphic_all (b ∷ rest) = (nat_le 33 b && nat_le b 126) && graphic_all rest

unfoldable pub graphic : List ℕ → Bool
graphic [] = false
graphic (b ∷ rest) = (nat_le 33 b && nat_le b 126) && graphic_all rest

graphic_byte : (b : ℕ) → 33 ≤ b → b ≤ 126 → (nat_le 33 b && nat_le b 126) ≡ true
graphic_byte b low high = and_from (nat_le 33 b) (nat_le b 126) (le-leb 33 b low) (le-leb b 126 high)

more : (b : ℕ) (rest : List ℕ) → 33 ≤ b → b ≤ 126 → graphic_all rest ≡ true → graphic_all (b ∷ rest) ≡ true
unfolding graphic_all
more b rest low high h = and_from (nat_le 33 b && nat_le b 126) (graphic_all rest) (graphic_byte b low high) h

one_more : (b : ℕ) (rest : List ℕ) → 33 ≤ b → b ≤ 126 → graphic_all rest ≡ true → graphic (b ∷ rest) ≡ true
unfolding graphic
one_more b rest low high h = and_from (nat_le 33 b && nat_le b 126) (graphic_all rest) (graphic_byte b low high) h

pub record Parts (b : ℕ) (rest : List ℕ) : Type 0 where
  pub low : 33 ≤ b
  pub high : b ≤ 126
  pub rest_is : graphic_all rest ≡ true

pub parts_all : (b : ℕ) (rest : List ℕ) → graphic_all (b ∷ rest) ≡ true → Parts b rest
unfolding graphic_all
parts_all b rest h = record { low = grind (arith, nat_tests, h); high = grind (arith, nat_tests, h); rest_is = grind (arith, nat_tests, h) }

pub parts : (b : ℕ) (rest : List ℕ) → graphic (b ∷ rest) ≡ true → Parts b rest
unfolding graphic
parts b rest h = record { low = grind (arith, nat_tests, h); high = grind (arith, nat_tests, h); rest_is = grind (arith, nat_tests, h) }

pub loosely : (text : List ℕ) → graphic text ≡ true → graphic_all text ≡ true
unfolding graphic graphic_all
loosely [] h = refl
loosely (b ∷ rest) h = h

append_all : (x y : List ℕ) → graphic_all x ≡ true → graphic_all y ≡ true → graphic_all (x ++ y) ≡ true
append_all [] y e f = f
append_all (b ∷ x) y e f = let here = parts_all b x e in more b (x ++ y) here.low here.high (append_all x y here.rest_is f)

empty_is_not : graphic [] ≡ true → ⊥
unfolding graphic
empty_is_not h = absurd cc

-- two texts around a byte
pub around_graphic : (c : ℕ) (front back : List ℕ) → 33 ≤ c → c ≤ 126 → graphic front ≡ true → graphic back ≡ true → graphic (joined c front back) ≡ true
around_graphic c [] back low high e f = absurd (empty_is_not e)
around_graphic c (b ∷ front) back low high e f =
    let here = parts b front e in
    one_more b (front ++ (c ∷ back)) here.low here.high (append_all front (c ∷ back) here.rest_is (more c back low high (loosely back f)))

-- ---- values

digits_all : (text : List ℕ) → all_ascii_digits text ≡ true → graphic_all text ≡ true
unfolding graphic_all
digits_all [] h = refl
digits_all (b ∷ rest) h =
    more b rest (grind (arith, nat_tests, h)) (grind (arith, nat_tests, h)) (digits_all rest (grind (arith, nat_tests, h)))

digits_graphic : (text : List ℕ) → 0 < length text → all_ascii_digits text ≡ true → graphic text ≡ true
digits_graphic [] some h = absurd (omega arith)
digits_graphic (b ∷ rest) some h =
    one_more b rest (grind (arith, nat_tests, h)) (grind (arith, nat_tests, h)) (digits_all rest (grind (arith, nat_tests, h)))

own : IsNumeralModel (λ ds. all_ascii_digits ds ≡ true) (digits_value 10)
own = numerals_by_value (λ ds. all_ascii_digits ds ≡ true) tells_all_ascii_digits

pub number_graphic : (n : ℕ) → n < 2 ^ 64 → graphic (decimal n) ≡ true
number_graphic n small = digits_graphic (decimal n) (decimal_nonempty n small) (digits_decimal own n small)

plain_all : (text : List ℕ) → All IsPlain text → graphic_all text ≡ true
unfolding graphic_all
plain_all [] all = refl
plain_all (b ∷ text) all =
    let here = All-head IsPlain b text all in
    more b text here.printable here.ascii (plain_all text (All-tail IsPlain b text all))

plain_graphic : (text : List ℕ) → 0 < length text → All IsPlain text → graphic text ≡ true
plain_graphic [] some all = absurd (omega arith)
plain_graphic (b ∷ text) some all =
    let here = All-head IsPlain b text all in
    one_more b text here.printable here.ascii (plain_all text (All-tail IsPlain b text all))

pub leaf_graphic : (text : List ℕ) → graphic (leaf_of text) ≡ true
leaf_graphic text = plain_graphic (leaf_of text) (some text) (plain text)

variant_graphic : (v : TypeVariant) → graphic (variant_text v) ≡ true
unfolding graphic graphic_all
variant_graphic FixedSize = refl
variant_graphic Dynamic = refl

type_graphic : (d : Detail) → IsMeasured d → graphic (type_text d) ≡ true
type_graphic d is =
    around_graphic 44 (variant_text d.variant) _ (omega arith) (omega arith) (variant_graphic d.variant)
    (around_graphic 44 (leaf_of d.name) _ (omega arith) (omega arith) (leaf_graphic d.name)
    (around_graphic 44 (decimal d.size) (decimal d.alignment) (omega arith) (omega arith) (number_graphic d.size is.size)
    (number_graphic d.alignment is.alignment)))

span_graphic : (s : Span) → IsSpan s → graphic (time_text s) ≡ true
span_graphic s is =
    around_graphic 44 (decimal s.seconds) (decimal s.nanoseconds) (omega arith) (omega arith) (number_graphic s.seconds is.0)
    (number_graphic s.nanoseconds (omega (arith, is.1)))

pub value_graphic : {S : Type 0} (takes : Takes S) (value : ValueOf takes) → IsValue takes value → graphic (value_text takes value) ≡ true
unfolding graphic graphic_all
value_graphic (number setter) n is = number_graphic n is
value_graphic (truth setter) true is = refl
value_graphic (truth setter) false is = refl
value_graphic (event setter) None is = refl
value_graphic (event setter) (Some n) is = number_graphic n is
value_graphic (time setter) None is = refl
value_graphic (time setter) (Some s) is = span_graphic s is
value_graphic (alignment setter) n is = number_graphic n is.1
value_graphic (type setter) d is = type_graphic d is

pub term_graphic : (name value : List ℕ) → graphic name ≡ true → graphic value ≡ true → graphic (term_text name value) ≡ true
term_graphic name value e f = around_graphic 61 name value (omega arith) (omega arith) e f

attribute_graphic : graphic (codes "attribute") ≡ true
unfolding graphic graphic_all
attribute_graphic = refl

pub pair_graphic : (p : Pair) → graphic (pair_word p) ≡ true
pair_graphic p =
    term_graphic (codes "attribute") (joined 58 (leaf_of p.key) (leaf_of p.value)) attribute_graphic
    (around_graphic 58 (leaf_of p.key) (leaf_of p.value) (omega arith) (omega arith) (leaf_graphic p.key) (leaf_graphic p.value))
