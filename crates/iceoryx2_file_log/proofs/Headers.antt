-- A header, read and written.
use Rattle.std.proofs.Common.{◌≡◌, ℕ, Bool, true, false, cond, eqb, List, [], ◌∷◌, ◌++◌, length, Option, Some, None}
use Rattle.std.proofs.Common.{refl, sym, ap, subst, ◌∙◌, length-append, append_assoc, arith, inl, inr}
use Rattle.std.specs.Prelude.{◌≢◌, ◌↔◌, Result, Ok, Err}
use Rattle.std.specs.Int.{w64}
use Rattle.std.specs.Str.{bytes_eq}
use Rattle.std.proofs.lemmas.Bool.{cases_lt, eqb-true, eq-eqb}
use Rattle.std.proofs.lemmas.List.{append-nil, get_or_past, get_or_append_left}
use Rattle.std.proofs.lemmas.Option.{none-some}
use Rattle.std.proofs.lemmas.Slice.Eq.{bytes_eq-Decides}
use Rattle.sha1.specs.Sha1.{sha1, digest_bytes}
use Rattle.iceoryx2_data.specs.PartForm.{number}
use Rattle.iceoryx2_data.specs.PartReading.{◌>>=◌, number_at, bytes_at, literal_at}
use Rattle.iceoryx2_data.proofs.PartForms.{IsBytes, bind_some, guard_is, some_is, Reads-bytes, Reads-each_byte}
use Rattle.iceoryx2_data.proofs.PartForms.{Reads-number64, Reads-literal}
use Rattle.iceoryx2_log.specs.Reading.{kind_at}
use Rattle.iceoryx2_file_log.specs.declared.header.TheConstants.{HEADER_LENGTH, SUMMED_LENGTH, SUM_LENGTH, NAME_LENGTH}
use Rattle.iceoryx2_file_log.specs.declared.header.TheConstants.{VERSION}
use Rattle.iceoryx2_file_log.specs.declared.header.Header.{Header}
use Rattle.iceoryx2_file_log.specs.declared.header.HeaderError.{HeaderError}
use Rattle.iceoryx2_file_log.specs.declared.header.HeaderError.TheVariants.{NotALog, AnotherVersion, Damaged}
use Rattle.iceoryx2_file_log.specs.Header.{magic, front, summed, sum_of, IsHeader, IsForm, HasVersion}
use Rattle.iceoryx2_file_log.specs.HeaderReading.{version_at, summed_in, fields_in, header_in, header_from, fault_of}

-- ---- what all but the sum is

equal_bytes : (xs ys : List ℕ) → bytes_eq xs ys ≡ true → xs ≡ ys
equal_bytes xs ys e = grind (arith, bytes_eq-Decides xs ys, e)

bytes_equal : (xs : List ℕ) → bytes_eq xs xs ≡ true
bytes_equal xs = grind (arith, bytes_eq-Decides xs xs)

front_bytes : (start rest bytes : List ℕ) → IsBytes bytes → bytes ≡ start ++ rest → IsBytes start
front_bytes start rest bytes fits is i =
    elim (cases_lt i (length start)) [
      | inl lt ↦ rw (← get_or_append_left start rest 0 i lt, ← is) (fits i)
      | inr le ↦ rw (get_or_past start i 0 le) (omega arith)
    ]

pub record IsSummed (bytes s : List ℕ) : Type 0 where
  pub parts : bytes ≡ s ++ sum_of s
  pub len : length s ≡ SUMMED_LENGTH
  pub fits : IsBytes s

abbrev checked : List ℕ × List ℕ → Option (List ℕ)
checked x = cond (bytes_eq x.1 (sum_of x.0)) (Some x.0) None

summed_takes : (bytes s : List ℕ) → IsBytes bytes → summed_in bytes ≡ Some s → IsSummed bytes s
unfolding summed_in
summed_takes bytes s fits e =
    let a = bind_some (bytes_at SUMMED_LENGTH bytes) checked s e in
    let g = guard_is (bytes_eq a.0.1 (sum_of a.0.0)) (Some a.0.0) s a.2 in
    let reads = Reads-bytes SUMMED_LENGTH in
    let t = reads.takes bytes a.0 fits a.1 in
    let right : a.0.1 ≡ sum_of a.0.0 = equal_bytes a.0.1 (sum_of a.0.0) g.0 in
    let found : IsSummed bytes a.0.0 = record {
      parts = t.0.parts ∙ ap (λ (x : List ℕ). a.0.0 ++ x) right;
      len = t.1;
      fits = front_bytes a.0.0 a.0.1 bytes fits t.0.parts;
    } in
    subst (λ (x : List ℕ). IsSummed bytes x) (some_is a.0.0 s g.1) found

summed_again : (s : List ℕ) → length s ≡ SUMMED_LENGTH → summed_in (s ++ sum_of s) ≡ Some s
unfolding summed_in
summed_again s len =
    let reads = Reads-bytes SUMMED_LENGTH in
    let one : bytes_at SUMMED_LENGTH (s ++ sum_of s) ≡ Some (s, sum_of s) = reads.again s (sum_of s) len in
    ap (λ (r : Option (List ℕ × List ℕ)). r >>= checked) one ∙ rw (bytes_equal (sum_of s)) refl

-- ---- the name and the numbers

-- both numbers
abbrev numbers : Header → List ℕ
numbers h = number h.counter ++ number h.snapshot_length

pub record HasFields (bytes : List ℕ) (h : Header) : Type 0 where
  pub rest : List ℕ
  pub parts : bytes ≡ h.name.0 ++ (number h.counter ++ (number h.snapshot_length ++ rest))
  pub limits : IsHeader h

abbrev with_snapshot : List ℕ → ℕ → ℕ × List ℕ → Option Header
with_snapshot name counter snapshot = Some (header_from name counter snapshot.0)

abbrev with_counter : List ℕ → ℕ × List ℕ → Option Header
with_counter name counter = number_at w64 counter.1 >>= with_snapshot name counter.0

fields_takes : (bytes : List ℕ) (h : Header) → IsBytes bytes → fields_in bytes ≡ Some h → HasFields bytes h
unfolding fields_in
fields_takes bytes h fits e =
    let a = bind_some (bytes_at NAME_LENGTH bytes) (λ name. number_at w64 name.1 >>= with_counter name.0) h e in
    let b = bind_some (number_at w64 a.0.1) (with_counter a.0.0) h a.2 in
    let c = bind_some (number_at w64 b.0.1) (with_snapshot a.0.0 b.0.0) h b.2 in
    let reads = Reads-each_byte NAME_LENGTH in
    let t0 = reads.takes bytes a.0 fits a.1 in
    let t1 = Reads-number64.takes a.0.1 b.0 t0.0.rest_fits b.1 in
    let t2 = Reads-number64.takes b.0.1 c.0 t1.0.rest_fits c.1 in
    let found : HasFields bytes (header_from a.0.0 b.0.0 c.0.0) = record {
      rest = c.0.1;
      parts = t0.0.parts ∙ ap (λ (x : List ℕ). a.0.0 ++ x) t1.0.parts
          ∙ ap (λ (x : List ℕ). a.0.0 ++ (number b.0.0 ++ x)) t2.0.parts;
      limits = record { name = t0.1.0; bytes = t0.1.1; counter = t1.1; snapshot = t2.1 };
    } in
    subst (λ (x : Header). HasFields bytes x) (some_is (header_from a.0.0 b.0.0 c.0.0) h c.2) found

fields_again : (h : Header) → IsHeader h → fields_in (h.name.0 ++ numbers h) ≡ Some h
unfolding fields_in
fields_again h limits =
    let reads = Reads-each_byte NAME_LENGTH in
    let one : bytes_at NAME_LENGTH (h.name.0 ++ numbers h) ≡ Some (h.name.0, numbers h) =
    reads.again h.name.0 (numbers h) (limits.name, limits.bytes) in
    let two : number_at w64 (numbers h) ≡ Some (h.counter, number h.snapshot_length) =
    Reads-number64.again h.counter (number h.snapshot_length) limits.counter in
    let three : number_at w64 (number h.snapshot_length) ≡ Some (h.snapshot_length, []) =
    ap (number_at w64) (sym (append-nil (number h.snapshot_length)))
    ∙ Reads-number64.again h.snapshot_length [] limits.snapshot in
    ap (λ (r : Option (List ℕ × List ℕ)). r >>= λ name. number_at w64 name.1 >>= with_counter name.0) one
    ∙ ap (λ (r : Option (ℕ × List ℕ)). r >>= with_counter h.name.0) two
    ∙ ap (λ (r : Option (ℕ × List ℕ)). r >>= with_snapshot h.name.0 h.counter) three

-- ---- the header

nothing : (rest : List ℕ) → length rest ≡ 0 → rest ≡ []
nothing [] e = refl
nothing (x ∷ rest) e = absurd (omega arith)

abbrev Literal : Type 0
Literal = Option (Unit {0} × List ℕ)

abbrev fields_after : Unit {0} × List ℕ → Option Header
fields_after f = fields_in f.1

whole_of : (s : List ℕ) (h : Header) (rest : List ℕ)
    → s ≡ front ++ (h.name.0 ++ (number h.counter ++ (number h.snapshot_length ++ rest)))
    → length s ≡ SUMMED_LENGTH → IsHeader h → s ≡ summed h
whole_of s h rest e len limits =
    let none : length rest ≡ 0 = omega (
      arith,
      ap length e,
      len,
      length-append h.name.0 (number h.counter ++ (number h.snapshot_length ++ rest)),
      length-append (number h.counter) (number h.snapshot_length ++ rest),
      length-append (number h.snapshot_length) rest,
      limits.name,
    ) in
    e ∙ ap (λ (r : List ℕ). front ++ (h.name.0 ++ (number h.counter ++ (number h.snapshot_length ++ r)))) (nothing rest none)
    ∙ ap (λ (r : List ℕ). front ++ (h.name.0 ++ (number h.counter ++ r))) (append-nil (number h.snapshot_length))

pub header_takes : (bytes : List ℕ) (h : Header) → IsBytes bytes → header_in bytes ≡ Some h → IsForm h bytes
unfolding header_in
header_takes bytes h fits e =
    let a = bind_some (summed_in bytes) (λ s. literal_at front s >>= fields_after) h e in
    let b = bind_some (literal_at front a.0) fields_after h a.2 in
    let s = summed_takes bytes a.0 fits a.1 in
    let reads = Reads-literal front in
    let t = reads.takes a.0 b.0 s.fits b.1 in
    let f = fields_takes b.0.1 h t.0.rest_fits b.2 in
    let whole : a.0 ≡ summed h = whole_of a.0 h f.rest (t.0.parts ∙ ap (λ (r : List ℕ). front ++ r) f.parts) s.len f.limits in
    record { limits = f.limits; is = s.parts ∙ ap (λ (x : List ℕ). x ++ sum_of x) whole }

summed_length : (h : Header) → IsHeader h → length (summed h) ≡ SUMMED_LENGTH
summed_length h limits = omega (arith, length-append h.name.0 (numbers h), limits.name)

pub header_again : (bytes : List ℕ) (h : Header) → IsForm h bytes → header_in bytes ≡ Some h
unfolding header_in
header_again bytes h form =
    let reads = Reads-literal front in
    let one : summed_in bytes ≡ Some (summed h) = ap summed_in form.is ∙ summed_again (summed h) (summed_length h form.limits) in
    let two : literal_at front (summed h) ≡ Some (tt, h.name.0 ++ numbers h) = reads.again tt (h.name.0 ++ numbers h) tt in
    ap (λ (r : Option (List ℕ)). r >>= λ s. literal_at front s >>= fields_after) one
    ∙ ap (λ (r : Literal). r >>= fields_after) two ∙ fields_again h form.limits

-- ---- the version

byte_takes : (bytes : List ℕ) (x : ℕ × List ℕ) → kind_at bytes ≡ Some x → bytes ≡ x.0 ∷ x.1
unfolding kind_at
byte_takes [] x e = absurd cc
byte_takes (b ∷ bytes) x e = ap (λ (y : ℕ × List ℕ). y.0 ∷ y.1) (some_is (b, bytes) x e)

abbrev only_byte : ℕ × List ℕ → Option ℕ
only_byte v = Some v.0

abbrev byte_after : Unit {0} × List ℕ → Option ℕ
byte_after m = kind_at m.1 >>= only_byte

pub version_takes : (bytes : List ℕ) (v : ℕ) → IsBytes bytes → version_at bytes ≡ Some v → HasVersion v bytes
unfolding version_at
version_takes bytes v fits e =
    let a = bind_some (literal_at magic bytes) byte_after v e in
    let b = bind_some (kind_at a.0.1) only_byte v a.2 in
    let reads = Reads-literal magic in
    let t = reads.takes bytes a.0 fits a.1 in
    subst (λ (x : ℕ). HasVersion x bytes) (some_is b.0.0 v b.2)
    (b.0.1, t.0.parts ∙ ap (λ (r : List ℕ). magic ++ r) (byte_takes a.0.1 b.0 b.1))

pub version_again : (bytes : List ℕ) (v : ℕ) → HasVersion v bytes → version_at bytes ≡ Some v
unfolding version_at kind_at
version_again bytes v has =
    let reads = Reads-literal magic in
    let one : literal_at magic bytes ≡ Some (tt, v ∷ has.0) = ap (literal_at magic) has.1 ∙ reads.again tt (v ∷ has.0) tt in
    ap (λ (r : Literal). r >>= byte_after) one

form_version : (bytes : List ℕ) (h : Header) → IsForm h bytes → HasVersion VERSION bytes
form_version bytes h form = (h.name.0 ++ numbers h ++ sum_of (summed h), form.is ∙ grind (arith, append_assoc))

-- ---- what decode answers

abbrev Decoded : Type 0
Decoded = Result Header HeaderError

abbrev given : Header → Decoded
given h = Ok h

abbrev refused : HeaderError → Decoded
refused e = Err e

given_is : (g h : Header) → given g ≡ given h → g ≡ h
given_is g h e = cc

pub some_header : (bytes : List ℕ) (x h : Header) → IsBytes bytes → header_in bytes ≡ Some x
    → given x ≡ given h ↔ IsForm h bytes
some_header bytes x h fits e = (
  λ same. subst (λ (y : Header). IsForm y bytes) (given_is x h same) (header_takes bytes x fits e),
  λ form. ap given (some_is x h (sym e ∙ header_again bytes h form)),
)

pub some_not_a_log : (bytes : List ℕ) (x : Header) → IsBytes bytes → header_in bytes ≡ Some x
    → given x ≡ refused NotALog ↔ ((v : ℕ) → HasVersion v bytes → ⊥)
some_not_a_log bytes x fits e = (λ same. absurd cc, λ none. absurd (none VERSION (form_version bytes x (header_takes bytes x fits e))))

one_version : (bytes : List ℕ) (v w : ℕ) → HasVersion v bytes → HasVersion w bytes → v ≡ w
one_version bytes v w has other = some_is v w (sym (version_again bytes v has) ∙ version_again bytes w other)

pub some_another : (bytes : List ℕ) (x : Header) → IsBytes bytes → header_in bytes ≡ Some x → (found : ℕ)
    → given x ≡ refused (AnotherVersion found) ↔ (HasVersion found bytes × (found ≢ VERSION))
some_another bytes x fits e found = (λ same. absurd cc, λ has. absurd (has.1 (one_version bytes found VERSION has.0 (form_version bytes x (header_takes bytes x fits e)))))

pub none_header : (bytes : List ℕ) (e : HeaderError) (h : Header) → header_in bytes ≡ None
    → refused e ≡ given h ↔ IsForm h bytes
none_header bytes e h none = (λ same. absurd cc, λ form. absurd (none-some h (sym none ∙ header_again bytes h form)))

never_not : (b : Bool) (found : ℕ) → cond b Damaged (AnotherVersion found) ≡ NotALog → ⊥
never_not true found e = absurd cc
never_not false found e = absurd cc

not_log : (bytes : List ℕ) (o : Option ℕ) → version_at bytes ≡ o → fault_of o ≡ NotALog → (v : ℕ) → HasVersion v bytes
    → ⊥
not_log bytes None e is v has = absurd (none-some v (sym e ∙ version_again bytes v has))
not_log bytes (Some found) e is v has = absurd (never_not (eqb found VERSION) found is)

is_not_log : (bytes : List ℕ) (o : Option ℕ) → IsBytes bytes → version_at bytes ≡ o → ((v : ℕ) → HasVersion v bytes → ⊥)
    → fault_of o ≡ NotALog
is_not_log bytes None fits e none = refl
is_not_log bytes (Some found) fits e none = absurd (none found (version_takes bytes found fits e))

refused_is : (d e : HeaderError) → refused d ≡ refused e → d ≡ e
refused_is d e same = cc

pub none_not_a_log : (bytes : List ℕ) (e : HeaderError) → IsBytes bytes → e ≡ fault_of (version_at bytes)
    → refused e ≡ refused NotALog ↔ ((v : ℕ) → HasVersion v bytes → ⊥)
none_not_a_log bytes e fits is = (
  λ same. not_log bytes (version_at bytes) refl (sym is ∙ refused_is e NotALog same),
  λ none. ap refused (is ∙ is_not_log bytes (version_at bytes) fits refl none),
)

other_found : (b : Bool) (found wanted : ℕ) → cond b Damaged (AnotherVersion found) ≡ AnotherVersion wanted
    → (b ≡ false) × (found ≡ wanted)
other_found true found wanted e = absurd cc
other_found false found wanted e = (refl, cc)

differs : (found : ℕ) → eqb found VERSION ≡ false → found ≢ VERSION
differs found e same = absurd (grind (arith, e, eq-eqb found VERSION same))

another : (bytes : List ℕ) (o : Option ℕ) → IsBytes bytes → version_at bytes ≡ o → (wanted : ℕ)
    → fault_of o ≡ AnotherVersion wanted → HasVersion wanted bytes × (wanted ≢ VERSION)
another bytes None fits e wanted is = absurd cc
another bytes (Some found) fits e wanted is =
    let x = other_found (eqb found VERSION) found wanted is in
    subst (λ (v : ℕ). HasVersion v bytes × (v ≢ VERSION)) x.1 (version_takes bytes found fits e, differs found x.0)

eqb_differs : (found : ℕ) (b : Bool) → eqb found VERSION ≡ b → found ≢ VERSION
    → cond b Damaged (AnotherVersion found) ≡ AnotherVersion found
eqb_differs found true e other = absurd (other (eqb-true found VERSION e))
eqb_differs found false e other = refl

is_another : (bytes : List ℕ) (found : ℕ) → HasVersion found bytes × (found ≢ VERSION)
    → fault_of (version_at bytes) ≡ AnotherVersion found
is_another bytes found has = ap fault_of (version_again bytes found has.0) ∙ eqb_differs found (eqb found VERSION) refl has.1

pub none_another : (bytes : List ℕ) (e : HeaderError) → IsBytes bytes → e ≡ fault_of (version_at bytes) → (found : ℕ)
    → refused e ≡ refused (AnotherVersion found) ↔ (HasVersion found bytes × (found ≢ VERSION))
none_another bytes e fits is found = (
  λ same. another bytes (version_at bytes) fits refl found (sym is ∙ refused_is e (AnotherVersion found) same),
  λ has. ap refused (is ∙ is_another bytes found has),
)

-- ---- the laws

pub one_form : (h : Header) (bytes other : List ℕ) → IsForm h bytes → IsForm h other → bytes ≡ other
one_form h bytes other f g = f.is ∙ sym g.is

pub one_header : (bytes : List ℕ) (g h : Header) → IsForm g bytes → IsForm h bytes → g ≡ h
one_header bytes g h f k = some_is g h (sym (header_again bytes g f) ∙ header_again bytes h k)

pub long : (h : Header) (bytes : List ℕ) → IsForm h bytes → length bytes ≡ HEADER_LENGTH
unfolding sha1 digest_bytes
long h bytes form =
    let len : length (sum_of (summed h)) ≡ SUM_LENGTH = refl in
    ap length form.is ∙ omega (arith, length-append (summed h) (sum_of (summed h)), summed_length h form.limits, len)
