-- The form of a part is a list of bytes.
use Rattle.std.proofs.Common.{◌≡◌, ℕ, ◌<◌, Bool, true, false, ◌&&◌, refl, List, [], ◌∷◌, ◌++◌, Option, Some, None, subst, arith, inl, inr}
use Rattle.std.specs.Int.{w32, to_be_bytes}
use Rattle.std.specs.List.{AllByRecursion}
use Rattle.std.specs.Char.{IsScalar, encode_utf8}
use Rattle.std.specs.Str.{encode_utf8_all, IsUtf8, is_utf8}
use Rattle.std.proofs.lemmas.Bool.{cases_lt, lt-ltb, le-ltb}
use Rattle.std.proofs.lemmas.Str.{IsUtf8-from_is_utf8}
use Rattle.std.proofs.Math.Utf8.{scalars, scalar_cases}
use Rattle.iceoryx2_types.specs.declared.types.TypeVariant.{TypeVariant}
use Rattle.iceoryx2_types.specs.declared.types.TypeVariant.TheVariants.{FixedSize, Dynamic}
use Rattle.iceoryx2_types.specs.Types.{Detail, Message}
use Rattle.iceoryx2_description.specs.declared.event.Deadline.{Deadline}
use Rattle.iceoryx2_description.specs.Span.{Span}
use Rattle.iceoryx2_description.specs.Messages.{IsMeasured, IsMeasuredMessage}
use Rattle.iceoryx2_data.specs.PartForm.{text, number, truth, option, span, deadline, variant, detail, message}

pub record AreBytes (bytes : List ℕ) : Type 0 where
  pub each : AllByRecursion (λ b. b < 256) bytes

pub none : AreBytes []
none = record { each = tt }

pub more : {b : ℕ} {bytes : List ℕ} → b < 256 → AreBytes bytes → AreBytes (b ∷ bytes)
more fits others = record { each = (fits, others.each) }

each_then : (xs ys : List ℕ) → AllByRecursion (λ b. b < 256) xs → AllByRecursion (λ b. b < 256) ys → AllByRecursion (λ b. b < 256) (xs ++ ys)
each_then [] ys p q = q
each_then (x ∷ xs) ys p q = (p.0, each_then xs ys p.1 q)

pub both : {xs ys : List ℕ} → AreBytes xs → AreBytes ys → AreBytes (xs ++ ys)
both {xs} {ys} p q = record { each = each_then xs ys p.each q.each }

-- ---- texts

scalar_below : (c : ℕ) → IsScalar c → c < 1114112
scalar_below c is = elim (scalar_cases c is) [ inl h ↦ omega arith | inr h ↦ h.1 ]

char_bytes : (c : ℕ) → c < 1114112 → AreBytes (encode_utf8 c)
unfolding encode_utf8
char_bytes c fits =
    elim (cases_lt c 128) [
      | inl a ↦ rw (lt-ltb c 128 a) (more (omega arith) none)
      | inr a ↦ elim (cases_lt c 2048) [
        | inl b ↦ rw (le-ltb c 128 a, lt-ltb c 2048 b) (more (omega arith) (more (omega arith) none))
        | inr b ↦ elim (cases_lt c 65536) [
          | inl d ↦ rw (le-ltb c 128 a, le-ltb c 2048 b, lt-ltb c 65536 d) (more (omega arith) (more (omega arith) (more (omega arith) none)))
          | inr d ↦ rw (le-ltb c 128 a, le-ltb c 2048 b, le-ltb c 65536 d) (more (omega arith) (more (omega arith) (more (omega arith) (more (omega arith) none))))
        ]
      ]
    ]

pair_of_tests : (a b : Bool) → (a && b) ≡ true → (a ≡ true) × (b ≡ true)
pair_of_tests true b h = (refl, h)
pair_of_tests false b h = absurd cc

chars_bytes : (cs : List ℕ) → scalars cs ≡ true → AreBytes (encode_utf8_all cs)
chars_bytes [] are = none
chars_bytes (c ∷ cs) are =
    let h = pair_of_tests _ _ are in
    both (char_bytes c (scalar_below c h.0)) (chars_bytes cs h.1)

utf8_bytes : (bytes : List ℕ) → is_utf8 bytes ≡ true → AreBytes bytes
utf8_bytes bytes is =
    let h : IsUtf8 bytes = IsUtf8-from_is_utf8 bytes is in
    subst (λ (bs : List ℕ). AreBytes bs) h.1.1 (chars_bytes h.0 h.1.0)

-- ---- parts

pub number_bytes : (n : ℕ) → AreBytes (number n)
number_bytes n = more (omega arith) (more (omega arith) (more (omega arith) (more (omega arith) (more (omega arith) (more (omega arith) (more (omega arith) (more (omega arith) none)))))))

four_bytes : (n : ℕ) → AreBytes (to_be_bytes w32 n)
four_bytes n = more (omega arith) (more (omega arith) (more (omega arith) (more (omega arith) none)))

pub text_bytes : (t : List ℕ) → is_utf8 t ≡ true → AreBytes (text t)
text_bytes t is = more (omega arith) (more (omega arith) (utf8_bytes t is))

pub option_bytes : {A : Type 0} (form : A → List ℕ) → ((x : A) → AreBytes (form x)) → (o : Option A) → AreBytes (option form o)
option_bytes form each None = more (omega arith) none
option_bytes form each (Some x) = more (omega arith) (each x)

span_bytes : (s : Span) → AreBytes (span s)
span_bytes s = both (number_bytes s.seconds) (four_bytes s.nanoseconds)

pub deadline_bytes : (d : Deadline) → AreBytes (deadline d)
deadline_bytes d = both (span_bytes d.value) (span_bytes d.creation_time)

pub truth_bytes : (b : Bool) → AreBytes (truth b)
truth_bytes true = more (omega arith) none
truth_bytes false = more (omega arith) none

variant_bytes : (v : TypeVariant) → AreBytes (variant v)
variant_bytes FixedSize = more (omega arith) none
variant_bytes Dynamic = more (omega arith) none

detail_bytes : (d : Detail) → IsMeasured d → AreBytes (detail d)
detail_bytes d fits = both (both (both (variant_bytes d.variant) (text_bytes d.name fits.detail.name.utf8)) (number_bytes d.size)) (number_bytes d.alignment)

pub message_bytes : (m : Message) → IsMeasuredMessage m → AreBytes (message m)
message_bytes m fits = both (both (detail_bytes m.header fits.header) (detail_bytes m.user_header fits.user_header)) (detail_bytes m.payload fits.payload)
