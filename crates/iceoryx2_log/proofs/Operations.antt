-- What a operation's kind, numbers and bytes are, read and written.
use Rattle.std.proofs.Common.{◌≡◌, ℕ, ◌^◌, ◌<◌, Bool, true, false, cond, eqb, List, [], ◌∷◌, ◌++◌, Option, Some, refl, ap, subst, ◌∙◌, arith}
use Rattle.std.specs.Prelude.{All}
use Rattle.std.specs.Int.{w64}
use Rattle.std.proofs.lemmas.Bool.{eqb-true}
use Rattle.std.proofs.lemmas.List.{get_or_default}
use Rattle.iceoryx2_data.specs.PartForm.{number}
use Rattle.iceoryx2_data.specs.PartReading.{◌>>=◌, number_at}
use Rattle.iceoryx2_data.proofs.PartForms.{IsBytes, bind_some, some_is, Reads-number64}
use Rattle.iceoryx2_log.specs.declared.entry.Operation.{Operation}
use Rattle.iceoryx2_log.specs.declared.entry.Operation.TheVariants.{MakeTag, RemoveTag, Lock, MakeSegment, RemoveSegment, RemoveDescription, Publish, OpenSegment, Release, Spend, Moved}
use Rattle.iceoryx2_log.specs.Form.{IsOperation, kind, details}
use Rattle.iceoryx2_log.specs.Reading.{none_in, number_in, numbers_in, publish_in, plain_operation_in, operation_in}

-- the operation whose kind and details these are
pub record IsRead (k : ℕ) (bytes : List ℕ) (d : Operation) : Type 0 where
  pub is_kind : k ≡ kind d
  pub parts : bytes ≡ details d
  pub fits : IsOperation d

-- ---- nothing, a number, two numbers, a number and bytes

pub record Nothing (d x : Operation) (bytes : List ℕ) : Type 0 where
  pub none : bytes ≡ []
  pub same : d ≡ x

none_takes : (d x : Operation) (bytes : List ℕ) → none_in d bytes ≡ Some x → Nothing d x bytes
unfolding none_in
none_takes d x [] e = record { none = refl; same = some_is d x e }
none_takes d x (b ∷ bytes) e = absurd cc

pub record OneNumber (to : ℕ → Operation) (x : Operation) (bytes : List ℕ) : Type 0 where
  pub one : ℕ
  pub small : one < 2 ^ 64
  pub parts : bytes ≡ number one
  pub same : to one ≡ x

number_takes : (to : ℕ → Operation) (x : Operation) (bytes : List ℕ) → IsBytes bytes → number_in to bytes ≡ Some x → OneNumber to x bytes
unfolding number_in
number_takes to x bytes fits e =
    let a = bind_some (number_at w64 bytes) (λ y. none_in (to y.0) y.1) x e in
    let t = Reads-number64.takes bytes a.0 fits a.1 in
    let end = none_takes (to a.0.0) x a.0.1 a.2 in
    record { one = a.0.0; small = t.1; parts = t.0.parts ∙ ap (λ (r : List ℕ). number a.0.0 ++ r) end.none; same = end.same }

pub record TwoNumbers (to : ℕ → ℕ → Operation) (x : Operation) (bytes : List ℕ) : Type 0 where
  pub one : ℕ
  pub two : ℕ
  pub small : (one < 2 ^ 64) × (two < 2 ^ 64)
  pub parts : bytes ≡ number one ++ number two
  pub same : to one two ≡ x

numbers_takes : (to : ℕ → ℕ → Operation) (x : Operation) (bytes : List ℕ) → IsBytes bytes → numbers_in to bytes ≡ Some x → TwoNumbers to x bytes
unfolding numbers_in
numbers_takes to x bytes fits e =
    let a = bind_some (number_at w64 bytes) (λ y. number_in (to y.0) y.1) x e in
    let t = Reads-number64.takes bytes a.0 fits a.1 in
    let last = number_takes (to a.0.0) x a.0.1 t.0.rest_fits a.2 in
    record { one = a.0.0; two = last.one; small = (t.1, last.small); parts = t.0.parts ∙ ap (λ (r : List ℕ). number a.0.0 ++ r) last.parts; same = last.same }

-- ---- each of them as a operation's kind

none_read : (d x : Operation) (k : ℕ) (bytes : List ℕ) → k ≡ kind d → [] ≡ details d → IsOperation d → none_in d bytes ≡ Some x → IsRead k bytes x
none_read d x k bytes is nothing fits e =
    let t = none_takes d x bytes e in
    subst (λ (y : Operation). IsRead k bytes y) t.same (record { is_kind = is; parts = t.none ∙ nothing; fits = fits })

lock_read : (x : Operation) (k : ℕ) (bytes : List ℕ) → IsBytes bytes → k ≡ 3 → number_in Lock bytes ≡ Some x → IsRead k bytes x
lock_read x k bytes fits is e =
    let t = number_takes Lock x bytes fits e in
    subst (λ (y : Operation). IsRead k bytes y) t.same (record { is_kind = is; parts = t.parts; fits = t.small })

make_segment_read : (x : Operation) (k : ℕ) (bytes : List ℕ) → IsBytes bytes → k ≡ 4 → numbers_in MakeSegment bytes ≡ Some x → IsRead k bytes x
make_segment_read x k bytes fits is e =
    let t = numbers_takes MakeSegment x bytes fits e in
    subst (λ (y : Operation). IsRead k bytes y) t.same (record { is_kind = is; parts = t.parts; fits = t.small })

open_segment_read : (x : Operation) (k : ℕ) (bytes : List ℕ) → IsBytes bytes → k ≡ 8 → numbers_in OpenSegment bytes ≡ Some x → IsRead k bytes x
open_segment_read x k bytes fits is e =
    let t = numbers_takes OpenSegment x bytes fits e in
    subst (λ (y : Operation). IsRead k bytes y) t.same (record { is_kind = is; parts = t.parts; fits = t.small })

release_read : (x : Operation) (k : ℕ) (bytes : List ℕ) → IsBytes bytes → k ≡ 9 → numbers_in Release bytes ≡ Some x → IsRead k bytes x
release_read x k bytes fits is e =
    let t = numbers_takes Release x bytes fits e in
    subst (λ (y : Operation). IsRead k bytes y) t.same (record { is_kind = is; parts = t.parts; fits = t.small })

spend_read : (x : Operation) (k : ℕ) (bytes : List ℕ) → IsBytes bytes → k ≡ 10 → number_in Spend bytes ≡ Some x → IsRead k bytes x
spend_read x k bytes fits is e =
    let t = number_takes Spend x bytes fits e in
    subst (λ (y : Operation). IsRead k bytes y) t.same (record { is_kind = is; parts = t.parts; fits = t.small })

publish_read : (x : Operation) (k : ℕ) (bytes : List ℕ) → IsBytes bytes → k ≡ 7 → publish_in bytes ≡ Some x → IsRead k bytes x
unfolding publish_in
publish_read x k bytes fits is e =
    let a = bind_some (number_at w64 bytes) (λ y. Some (Publish y.0 y.1)) x e in
    let t = Reads-number64.takes bytes a.0 fits a.1 in
    let each : All (λ b. b < 256) a.0.1 = λ i d lt. rw (get_or_default a.0.1 i d 0 lt) (t.0.rest_fits i) in
    subst (λ (y : Operation). IsRead k bytes y) (some_is (Publish a.0.0 a.0.1) x a.2) (record { is_kind = is; parts = t.0.parts; fits = (t.1, each) })

-- ---- one of the kinds

either : {A P : Type 0} {r s : Option A} {x : A} (b : Bool) → cond b r s ≡ Some x → (b ≡ true → r ≡ Some x → P) → (s ≡ Some x → P) → P
either true e first other = first refl e
either false e first other = other e

plain_takes : (k : ℕ) (bytes : List ℕ) (x : Operation) → IsBytes bytes → plain_operation_in k bytes ≡ Some x → IsRead k bytes x
unfolding plain_operation_in
plain_takes k bytes x fits e =
    either (eqb k 1) e (λ is h. none_read MakeTag x k bytes (eqb-true k 1 is) refl tt h) (λ e2.
    either (eqb k 2) e2 (λ is h. none_read RemoveTag x k bytes (eqb-true k 2 is) refl tt h) (λ e3.
    either (eqb k 3) e3 (λ is h. lock_read x k bytes fits (eqb-true k 3 is) h) (λ e4.
    either (eqb k 4) e4 (λ is h. make_segment_read x k bytes fits (eqb-true k 4 is) h) (λ e5.
    either (eqb k 5) e5 (λ is h. none_read RemoveSegment x k bytes (eqb-true k 5 is) refl tt h) (λ e6.
    either (eqb k 6) e6 (λ is h. none_read RemoveDescription x k bytes (eqb-true k 6 is) refl tt h) (λ e8.
    either (eqb k 8) e8 (λ is h. open_segment_read x k bytes fits (eqb-true k 8 is) h) (λ e9.
    either (eqb k 9) e9 (λ is h. release_read x k bytes fits (eqb-true k 9 is) h) (λ e10.
    either (eqb k 10) e10 (λ is h. spend_read x k bytes fits (eqb-true k 10 is) h) (λ e11.
    either (eqb k 11) e11 (λ is h. none_read Moved x k bytes (eqb-true k 11 is) refl tt h) (λ none. absurd cc))))))))))

pub operation_takes : (k : ℕ) (bytes : List ℕ) (x : Operation) → IsBytes bytes → operation_in k bytes ≡ Some x → IsRead k bytes x
unfolding operation_in
operation_takes k bytes x fits e =
    either (eqb k 7) e (λ is h. publish_read x k bytes fits (eqb-true k 7 is) h) (λ other. plain_takes k bytes x fits other)

-- ---- what was written is read again

abbrev Numbered : Type 0
Numbered = Option (ℕ × List ℕ)

number_again : (to : ℕ → Operation) (n : ℕ) → n < 2 ^ 64 → number_in to (number n) ≡ Some (to n)
unfolding number_in none_in
number_again to n small = ap (λ (r : Numbered). r >>= λ y. none_in (to y.0) y.1) (Reads-number64.again n [] small)

numbers_again : (to : ℕ → ℕ → Operation) (n m : ℕ) → n < 2 ^ 64 → m < 2 ^ 64 → numbers_in to (number n ++ number m) ≡ Some (to n m)
unfolding numbers_in
numbers_again to n m small other = ap (λ (r : Numbered). r >>= λ y. number_in (to y.0) y.1) (Reads-number64.again n (number m) small) ∙ number_again (to n) m other

publish_again : (n : ℕ) (bytes : List ℕ) → n < 2 ^ 64 → publish_in (number n ++ bytes) ≡ Some (Publish n bytes)
unfolding publish_in
publish_again n bytes small = ap (λ (r : Numbered). r >>= λ y. Some (Publish y.0 y.1)) (Reads-number64.again n bytes small)

pub operation_again : (d : Operation) → IsOperation d → operation_in (kind d) (details d) ≡ Some d
unfolding operation_in plain_operation_in none_in
operation_again MakeTag fits = refl
operation_again RemoveTag fits = refl
operation_again (Lock n) fits = number_again Lock n fits
operation_again (MakeSegment n nodes) fits = numbers_again MakeSegment n nodes fits.0 fits.1
operation_again RemoveSegment fits = refl
operation_again RemoveDescription fits = refl
operation_again (Publish n bytes) fits = publish_again n bytes fits.0
operation_again (OpenSegment n ticket) fits = numbers_again OpenSegment n ticket fits.0 fits.1
operation_again (Release ticket n) fits = numbers_again Release ticket n fits.0 fits.1
operation_again (Spend n) fits = number_again Spend n fits
operation_again Moved fits = refl

pub kind_below : (d : Operation) → kind d < 256
kind_below MakeTag = omega arith
kind_below RemoveTag = omega arith
kind_below (Lock n) = omega arith
kind_below (MakeSegment n nodes) = omega arith
kind_below RemoveSegment = omega arith
kind_below RemoveDescription = omega arith
kind_below (Publish n bytes) = omega arith
kind_below (OpenSegment n ticket) = omega arith
kind_below (Release ticket n) = omega arith
kind_below (Spend n) = omega arith
kind_below Moved = omega arith
