-- The header and the sum before a body, read and written.
use Rattle.std.proofs.Common.{◌≡◌, ℕ, ◌^◌, ◌<◌, true, cond, ltb, eqb, List, ◌++◌, length, Option, Some, None, refl, sym, ap, subst, ◌∙◌, append_assoc, arith, inl, inr}
use Rattle.std.specs.Int.{w32, bit_not, to_be_bytes}
use Rattle.std.specs.Str.{bytes_eq}
use Rattle.std.proofs.lemmas.Bool.{cases_lt, eqb-true, eq-eqb, ltb-false, le-ltb}
use Rattle.std.proofs.lemmas.List.{get_or_past, get_or_append_left}
use Rattle.std.proofs.lemmas.Slice.Eq.{bytes_eq-Decides}
use Rattle.sha1.specs.Sha1.{sha1, digest_bytes}
use Rattle.iceoryx2_data.specs.PartReading.{◌>>=◌, number_at, bytes_at}
use Rattle.iceoryx2_data.proofs.PartForms.{IsBytes, bind_some, guard_not, guard_is, some_is, Takes, Takes-then, Reads-bytes, Reads-number32}
use Rattle.iceoryx2_log.specs.declared.form.TheConstants.{SUM_LENGTH, MIN_BODY_LENGTH, MAX_BODY_LENGTH}
use Rattle.iceoryx2_log.specs.Form.{header, sum_of, sealed, IsLength}
use Rattle.iceoryx2_log.specs.Reading.{header_at, summed_at, sealed_at}

-- ---- the header

abbrev Numbered : Type 0
Numbered = Option (ℕ × List ℕ)

abbrev fitting : ℕ → List ℕ → Numbered
fitting n rest = cond (ltb n MIN_BODY_LENGTH) None (cond (ltb MAX_BODY_LENGTH n) None (Some (n, rest)))

abbrev behind_length : ℕ × List ℕ → Numbered
behind_length n = number_at w32 n.1 >>= λ inverted. cond (eqb inverted.0 (bit_not w32 n.0)) (fitting n.0 inverted.1) None

pub header_takes : (bytes : List ℕ) (x : ℕ × List ℕ) → IsBytes bytes → header_at bytes ≡ Some x → Takes bytes (header x.0) x.1 × IsLength x.0
unfolding header_at
header_takes bytes x fits e =
    let a = bind_some (number_at w32 bytes) behind_length x e in
    let b = bind_some (number_at w32 a.0.1) (λ inverted. cond (eqb inverted.0 (bit_not w32 a.0.0)) (fitting a.0.0 inverted.1) None) x a.2 in
    let g = guard_is (eqb b.0.0 (bit_not w32 a.0.0)) (fitting a.0.0 b.0.1) x b.2 in
    let low = guard_not (ltb a.0.0 MIN_BODY_LENGTH) (cond (ltb MAX_BODY_LENGTH a.0.0) None (Some (a.0.0, b.0.1))) x g.1 in
    let high = guard_not (ltb MAX_BODY_LENGTH a.0.0) (Some (a.0.0, b.0.1)) x low.1 in
    let t0 = Reads-number32.takes bytes a.0 fits a.1 in
    let t1 = Reads-number32.takes a.0.1 b.0 t0.0.rest_fits b.1 in
    let inverse : b.0.0 ≡ bit_not w32 a.0.0 = eqb-true b.0.0 (bit_not w32 a.0.0) g.0 in
    let whole = Takes-then bytes (to_be_bytes w32 a.0.0) a.0.1 (to_be_bytes w32 b.0.0) b.0.1 t0.0 t1.0 in
    let at : Takes bytes (header a.0.0) b.0.1 = subst (λ (k : ℕ). Takes bytes (to_be_bytes w32 a.0.0 ++ to_be_bytes w32 k) b.0.1) inverse whole in
    subst (λ (y : ℕ × List ℕ). Takes bytes (header y.0) y.1 × IsLength y.0) (some_is (a.0.0, b.0.1) x high.1) (at, (ltb-false a.0.0 MIN_BODY_LENGTH low.0, ltb-false MAX_BODY_LENGTH a.0.0 high.0))

inverted_below : (n : ℕ) → bit_not w32 n < 2 ^ 32
inverted_below n = omega arith

small : (n : ℕ) → IsLength n → n < 2 ^ 32
small n is = omega (arith, is.1)

fits_here : (n : ℕ) (rest : List ℕ) → IsLength n → fitting n rest ≡ Some (n, rest)
fits_here n rest is = rw (le-ltb n MIN_BODY_LENGTH is.0, le-ltb MAX_BODY_LENGTH n is.1) refl

same_passes : {A : Type 0} (k : ℕ) (r : Option A) → cond (eqb k k) r None ≡ r
same_passes k r = rw (eq-eqb k k refl) refl

pub header_again : (n : ℕ) (rest : List ℕ) → IsLength n → header_at (header n ++ rest) ≡ Some (n, rest)
unfolding header_at
header_again n rest is =
    let one : number_at w32 (header n ++ rest) ≡ Some (n, to_be_bytes w32 (bit_not w32 n) ++ rest) = Reads-number32.again n (to_be_bytes w32 (bit_not w32 n) ++ rest) (small n is) in
    let two : number_at w32 (to_be_bytes w32 (bit_not w32 n) ++ rest) ≡ Some (bit_not w32 n, rest) = Reads-number32.again (bit_not w32 n) rest (inverted_below n) in
    ap (λ (r : Numbered). r >>= behind_length) one
    ∙ ap (λ (r : Numbered). r >>= λ inverted. cond (eqb inverted.0 (bit_not w32 n)) (fitting n inverted.1) None) two
    ∙ same_passes (bit_not w32 n) (fitting n rest) ∙ fits_here n rest is

-- ---- the sum

pub sum_length : (bytes : List ℕ) → length (sum_of bytes) ≡ SUM_LENGTH
unfolding sha1 digest_bytes
sum_length bytes = refl

equal_bytes : (xs ys : List ℕ) → bytes_eq xs ys ≡ true → xs ≡ ys
equal_bytes xs ys e = grind (arith, bytes_eq-Decides xs ys, e)

bytes_equal : (xs : List ℕ) → bytes_eq xs xs ≡ true
bytes_equal xs = grind (arith, bytes_eq-Decides xs xs)

abbrev Split : Type 0
Split = Option (List ℕ × List ℕ)

abbrev checked : List ℕ → List ℕ × List ℕ → Split
checked sum body = cond (bytes_eq sum (sum_of body.0)) (Some body) None

front_bytes : (front rest bytes : List ℕ) → IsBytes bytes → bytes ≡ front ++ rest → IsBytes front
front_bytes front rest bytes fits is i =
    elim (cases_lt i (length front)) [
      | inl lt ↦ rw (← get_or_append_left front rest 0 i lt, ← is) (fits i)
      | inr le ↦ rw (get_or_past front i 0 le) (omega arith)
    ]

summed_takes : (n : ℕ) (bytes : List ℕ) (x : List ℕ × List ℕ) → IsBytes bytes → summed_at n bytes ≡ Some x → Takes bytes (sum_of x.0 ++ x.0) x.1 × ((length x.0 ≡ n) × IsBytes x.0)
unfolding summed_at
summed_takes n bytes x fits e =
    let a = bind_some (bytes_at SUM_LENGTH bytes) (λ sum. bytes_at n sum.1 >>= λ body. checked sum.0 body) x e in
    let b = bind_some (bytes_at n a.0.1) (λ body. checked a.0.0 body) x a.2 in
    let g = guard_is (bytes_eq a.0.0 (sum_of b.0.0)) (Some b.0) x b.2 in
    let first = Reads-bytes SUM_LENGTH in
    let second = Reads-bytes n in
    let t0 = first.takes bytes a.0 fits a.1 in
    let t1 = second.takes a.0.1 b.0 t0.0.rest_fits b.1 in
    let whole = Takes-then bytes a.0.0 a.0.1 b.0.0 b.0.1 t0.0 t1.0 in
    let at : Takes bytes (sum_of b.0.0 ++ b.0.0) b.0.1 = subst (λ (s : List ℕ). Takes bytes (s ++ b.0.0) b.0.1) (equal_bytes a.0.0 (sum_of b.0.0) g.0) whole in
    subst (λ (y : List ℕ × List ℕ). Takes bytes (sum_of y.0 ++ y.0) y.1 × ((length y.0 ≡ n) × IsBytes y.0)) (some_is b.0 x g.1)
    (at, (t1.1, front_bytes b.0.0 b.0.1 a.0.1 t0.0.rest_fits t1.0.parts))

summed_again : (body rest : List ℕ) → summed_at (length body) (sum_of body ++ (body ++ rest)) ≡ Some (body, rest)
unfolding summed_at
summed_again body rest =
    let first = Reads-bytes SUM_LENGTH in
    let second = Reads-bytes (length body) in
    let one : bytes_at SUM_LENGTH (sum_of body ++ (body ++ rest)) ≡ Some (sum_of body, body ++ rest) = first.again (sum_of body) (body ++ rest) (sum_length body) in
    let two : bytes_at (length body) (body ++ rest) ≡ Some (body, rest) = second.again body rest refl in
    ap (λ (r : Split). r >>= λ sum. bytes_at (length body) sum.1 >>= λ found. checked sum.0 found) one
    ∙ ap (λ (r : Split). r >>= λ found. checked (sum_of body) found) two
    ∙ rw (bytes_equal (sum_of body)) refl

-- ---- both

pub sealed_takes : (bytes : List ℕ) (x : List ℕ × List ℕ) → IsBytes bytes → sealed_at bytes ≡ Some x → Takes bytes (sealed x.0) x.1 × (IsLength (length x.0) × IsBytes x.0)
unfolding sealed_at
sealed_takes bytes x fits e =
    let a = bind_some (header_at bytes) (λ n. summed_at n.0 n.1) x e in
    let t0 = header_takes bytes a.0 fits a.1 in
    let t1 = summed_takes a.0.0 a.0.1 x t0.0.rest_fits a.2 in
    let whole = Takes-then bytes (header a.0.0) a.0.1 (sum_of x.0 ++ x.0) x.1 t0.0 t1.0 in
    let at : Takes bytes (header (length x.0) ++ (sum_of x.0 ++ x.0)) x.1 = subst (λ (n : ℕ). Takes bytes (header n ++ (sum_of x.0 ++ x.0)) x.1) (sym t1.1.0) whole in
    (at, (subst (λ (n : ℕ). IsLength n) (sym t1.1.0) t0.1, t1.1.1))

pub header_of_sealed : (body rest : List ℕ) → IsLength (length body) → header_at (sealed body ++ rest) ≡ Some (length body, sum_of body ++ (body ++ rest))
header_of_sealed body rest is =
    let grouped : sealed body ++ rest ≡ header (length body) ++ (sum_of body ++ (body ++ rest)) = ap (λ (r : List ℕ). header (length body) ++ r) (append_assoc (sum_of body) body rest) in
    ap header_at grouped ∙ header_again (length body) (sum_of body ++ (body ++ rest)) is

pub sealed_again : (body rest : List ℕ) → IsLength (length body) → sealed_at (sealed body ++ rest) ≡ Some (body, rest)
unfolding sealed_at
sealed_again body rest is =
    ap (λ (r : Numbered). r >>= λ n. summed_at n.0 n.1) (header_of_sealed body rest is) ∙ summed_again body rest
