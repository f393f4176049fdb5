-- An entry in front of bytes, read and written.
use Rattle.std.proofs.Common.{◌≡◌, ℕ, ◌+◌, ◌^◌, ◌<◌, ◌≤◌, List, [], ◌∷◌, ◌++◌, length, Option, Some, refl, ap, subst, ◌∙◌, length-append, arith}
use Rattle.std.specs.Prelude.{All}
use Rattle.iceoryx2_description.specs.declared.description.TheConstants.{HASH_LENGTH}
use Rattle.iceoryx2_data.specs.PartForm.{number}
use Rattle.iceoryx2_data.specs.PartReading.{◌>>=◌}
use Rattle.iceoryx2_data.proofs.PartForms.{IsBytes, IsBytes-rest, bind_some, some_is, Takes, Reads, Reads-then, Reads-number64, Reads-each_byte}
use Rattle.iceoryx2_log.specs.declared.entry.Operation.{Operation}
use Rattle.iceoryx2_log.specs.declared.entry.Entry.{Entry}
use Rattle.iceoryx2_log.specs.declared.form.TheConstants.{MIN_BODY_LENGTH, MAX_BODY_LENGTH}
use Rattle.iceoryx2_log.specs.Form.{IsEntry, kind, details, body, sealed, IsLength}
use Rattle.iceoryx2_log.specs.Reading.{kind_at, front_at, entry_from, operation_in, body_in, sealed_at, entry_at}
use Rattle.iceoryx2_log.proofs.Operations.{operation_takes, operation_again, kind_below}
use Rattle.iceoryx2_log.proofs.Parts.{sealed_takes, sealed_again}

-- ---- the body

abbrev one_byte : ℕ → List ℕ
one_byte k = k ∷ []

abbrev IsByte : ℕ → Type 0
IsByte k = k < 256

kind_takes : (bytes : List ℕ) (x : ℕ × List ℕ) → IsBytes bytes → kind_at bytes ≡ Some x → Takes bytes (one_byte x.0) x.1 × IsByte x.0
unfolding kind_at
kind_takes [] x fits e = absurd cc
kind_takes (b ∷ bytes) x fits e = subst (λ (y : ℕ × List ℕ). Takes (b ∷ bytes) (one_byte y.0) y.1 × IsByte y.0) (some_is (b, bytes) x e) (record { parts = refl; rest_fits = IsBytes-rest b bytes fits }, fits 0)

kind_again : (k : ℕ) (rest : List ℕ) → IsByte k → kind_at (one_byte k ++ rest) ≡ Some (k, rest)
unfolding kind_at
kind_again k rest fits = refl

Reads-kind : Reads kind_at one_byte IsByte
Reads-kind = record { takes = kind_takes; again = kind_again }

abbrev Front : Type 0
Front = ℕ × (ℕ × List ℕ)

abbrev front_form : Front → List ℕ
front_form f = one_byte f.0 ++ (number f.1.0 ++ f.1.1)

abbrev IsFront : Front → Type 0
IsFront f = IsByte f.0 × ((f.1.0 < 2 ^ 64) × ((length f.1.1 ≡ HASH_LENGTH) × All (λ b. b < 256) f.1.1))

Reads-front : Reads front_at front_form IsFront
unfolding front_at
Reads-front = Reads-then _ _ _ _ _ _ Reads-kind (Reads-then _ _ _ _ _ _ Reads-number64 (Reads-each_byte HASH_LENGTH))

pub record IsBody (bytes : List ℕ) (e : Entry) : Type 0 where
  pub parts : bytes ≡ body e
  pub limits : IsEntry e

pub body_takes : (bytes : List ℕ) (x : Entry) → IsBytes bytes → body_in bytes ≡ Some x → IsBody bytes x
unfolding body_in
body_takes bytes x fits e =
    let a = bind_some (front_at bytes) (λ f. operation_in f.0.0 f.1 >>= λ d. Some (entry_from f.0 d)) x e in
    let b = bind_some (operation_in a.0.0.0 a.0.1) (λ d. Some (entry_from a.0.0 d)) x a.2 in
    let t = Reads-front.takes bytes a.0 fits a.1 in
    let d = operation_takes a.0.0.0 a.0.1 b.0 t.0.rest_fits b.1 in
    let whole : bytes ≡ body (entry_from a.0.0 b.0) = t.0.parts ∙ ap (λ (k : ℕ). k ∷ ((number a.0.0.1.0 ++ a.0.0.1.1) ++ a.0.1)) d.is_kind ∙ ap (λ (r : List ℕ). kind b.0 ∷ ((number a.0.0.1.0 ++ a.0.0.1.1) ++ r)) d.parts in
    subst (λ (y : Entry). IsBody bytes y) (some_is (entry_from a.0.0 b.0) x b.2)
    (record { parts = whole; limits = record { node = t.1.1.0; hash = record { length = t.1.1.1.0; bytes = t.1.1.1.1 }; operation = d.fits } })

abbrev front_of : Entry → Front
front_of e = (kind e.operation, (e.node, e.hash.0))

pub body_again : (e : Entry) → IsEntry e → body_in (body e) ≡ Some e
unfolding body_in
body_again e fits =
    let one : front_at (body e) ≡ Some (front_of e, details e.operation) = Reads-front.again (front_of e) (details e.operation) (kind_below e.operation, (fits.node, (fits.hash.length, fits.hash.bytes))) in
    ap (λ (r : Option (Front × List ℕ)). r >>= λ f. operation_in f.0.0 f.1 >>= λ d. Some (entry_from f.0 d)) one
    ∙ ap (λ (r : Option Operation). r >>= λ d. Some (entry_from (front_of e) d)) (operation_again e.operation fits.operation)

-- a body has a kind, a node and a hash before its details
pub body_length : (e : Entry) → length e.hash.0 ≡ HASH_LENGTH → length (body e) ≡ MIN_BODY_LENGTH + length (details e.operation)
body_length e twenty = omega (arith, length-append e.hash.0 (details e.operation), twenty)

-- ---- the whole

abbrev pub whole : Entry → List ℕ
whole e = sealed (body e)

pub record HasForm (e : Entry) : Type 0 where
  pub limits : IsEntry e
  pub short : length (body e) ≤ MAX_BODY_LENGTH

pub entry_takes : (bytes : List ℕ) (x : Entry × List ℕ) → IsBytes bytes → entry_at bytes ≡ Some x → Takes bytes (whole x.0) x.1 × HasForm x.0
unfolding entry_at
entry_takes bytes x fits e =
    let a = bind_some (sealed_at bytes) (λ b. body_in b.0 >>= λ entry. Some (entry, b.1)) x e in
    let b = bind_some (body_in a.0.0) (λ entry. Some (entry, a.0.1)) x a.2 in
    let t = sealed_takes bytes a.0 fits a.1 in
    let is = body_takes a.0.0 b.0 t.1.1 b.1 in
    let at : Takes bytes (whole b.0) a.0.1 = subst (λ (y : List ℕ). Takes bytes (sealed y) a.0.1) is.parts t.0 in
    let short : length (body b.0) ≤ MAX_BODY_LENGTH = subst (λ (y : List ℕ). length y ≤ MAX_BODY_LENGTH) is.parts t.1.0.1 in
    subst (λ (y : Entry × List ℕ). Takes bytes (whole y.0) y.1 × HasForm y.0) (some_is (b.0, a.0.1) x b.2) (at, record { limits = is.limits; short = short })

pub long_body : (e : Entry) → HasForm e → IsLength (length (body e))
long_body e fits = (omega (arith, body_length e fits.limits.hash.length), fits.short)

pub entry_again : (e : Entry) (rest : List ℕ) → HasForm e → entry_at (whole e ++ rest) ≡ Some (e, rest)
unfolding entry_at
entry_again e rest fits =
    ap (λ (r : Option (List ℕ × List ℕ)). r >>= λ b. body_in b.0 >>= λ entry. Some (entry, b.1)) (sealed_again (body e) rest (long_body e fits))
    ∙ ap (λ (r : Option Entry). r >>= λ entry. Some (entry, rest)) (body_again e fits.limits)
