-- What entries bytes come to.
use Rattle.std.proofs.Common.{◌≡◌, ℕ, zero, suc, ◌-◌, ◌<◌, ◌≤◌, Bool, true, false, cond, List, [], ◌∷◌, ◌++◌, length, take, drop, Option, Some, None}
use Rattle.std.proofs.Common.{refl, sym, ap, subst, ◌∙◌, append_assoc, length-append, take-append-drop, arith}
use Rattle.std.specs.Prelude.{◌≢◌, All}
use Rattle.std.proofs.lemmas.List.{append-nil}
use Rattle.std.proofs.lemmas.List.Elements.{All-nil, All-cons, All-head, All-tail, All-append}
use Rattle.std.proofs.lemmas.Option.{none-some}
use Rattle.iceoryx2_data.proofs.PartForms.{IsBytes, some_is}
use Rattle.iceoryx2_log.specs.declared.entry.Operation.{Operation}
use Rattle.iceoryx2_log.specs.declared.entry.Operation.TheVariants.{MakeTag, RemoveTag, Lock, MakeSegment, RemoveSegment}
use Rattle.iceoryx2_log.specs.declared.entry.Operation.TheVariants.{RemoveDescription, Publish, OpenSegment, Release, Spend, Moved}
use Rattle.iceoryx2_log.specs.declared.entry.Entry.{Entry}
use Rattle.iceoryx2_log.specs.Form.{IsForm, Begins}
use Rattle.iceoryx2_log.specs.Reading.{entry_at}
use Rattle.iceoryx2_log.proofs.Found.{read_again, begins}
use Rattle.iceoryx2_file_log.specs.Compaction.{AreForms}
use Rattle.iceoryx2_file_log.specs.Medium.{AreBytes}
use Rattle.iceoryx2_file_log.specs.Entries.{marks, unmarked, entry_in, entries_by, entries_in}
use Rattle.iceoryx2_file_log.proofs.Keeping.{begin_of, IsQuiet}

abbrev Read : Type 0
Read = Entry × List ℕ

abbrev pub Stays : Entry → Type 0
Stays e = e.operation ≢ Moved

-- ---- bytes

pub bytes_append : (xs ys : List ℕ) → AreBytes xs → AreBytes ys → AreBytes (xs ++ ys)
bytes_append [] ys a b i = b i
bytes_append (x ∷ xs) ys a b zero = a zero
bytes_append (x ∷ xs) ys a b (suc i) = bytes_append xs ys (λ j. a (suc j)) b i

pub bytes_behind : (xs ys : List ℕ) → AreBytes (xs ++ ys) → AreBytes ys
bytes_behind [] ys a i = a i
bytes_behind (x ∷ xs) ys a i = bytes_behind xs ys (λ j. a (suc j)) i

pub bytes_before : (xs ys : List ℕ) → AreBytes (xs ++ ys) → AreBytes xs
bytes_before [] ys a i = omega arith
bytes_before (x ∷ xs) ys a zero = a zero
bytes_before (x ∷ xs) ys a (suc i) = bytes_before xs ys (λ j. a (suc j)) i

pub bytes_drop : (n : ℕ) (bytes : List ℕ) → AreBytes bytes → AreBytes (drop n bytes)
bytes_drop n bytes a =
    bytes_behind (take n bytes) (drop n bytes) (subst (λ (b : List ℕ). AreBytes b) (sym (take-append-drop n bytes)) a)

pub bytes_take : (n : ℕ) (bytes : List ℕ) → AreBytes bytes → AreBytes (take n bytes)
bytes_take n bytes a =
    bytes_before (take n bytes) (drop n bytes) (subst (λ (b : List ℕ). AreBytes b) (sym (take-append-drop n bytes)) a)

is_bytes : (bytes : List ℕ) → AreBytes bytes → IsBytes bytes
is_bytes bytes a i = a i

-- ---- marks

stays_on : (d : Operation) → d ≢ Moved → marks d ≡ false
stays_on MakeTag apart = refl
stays_on RemoveTag apart = refl
stays_on (Lock n) apart = refl
stays_on (MakeSegment n nodes) apart = refl
stays_on RemoveSegment apart = refl
stays_on RemoveDescription apart = refl
stays_on (Publish n bytes) apart = refl
stays_on (OpenSegment n ticket) apart = refl
stays_on (Release ticket n) apart = refl
stays_on (Spend n) apart = refl
stays_on Moved apart = absurd (apart refl)

abbrev chosen : Bool → Read → Option Read
chosen b x = cond b None (Some x)

apart_from : (d : Operation) → marks d ≡ false → d ≢ Moved
apart_from d e is = let moved : true ≡ false = sym (ap marks is) ∙ e in absurd cc

-- An entry in front that is no mark is found.
found_again : (bytes : List ℕ) (e : Entry) (count : ℕ) → (b : Begins bytes e count) → Stays e → entry_in bytes ≡ Some (e, b.rest)
found_again bytes e count b stays =
    ap unmarked (read_again bytes e count b) ∙ ap (λ (m : Bool). chosen m (e, b.rest)) (stays_on e.operation stays)

quiet_where : (bytes : List ℕ) (x : Read) (m : Bool) → entry_at bytes ≡ Some x → marks x.0.operation ≡ m → AreBytes bytes
    → IsQuiet bytes → chosen m x ≡ None
quiet_where bytes x true e is a quiet = refl
quiet_where bytes x false e is a quiet =
    absurd (quiet x.0 (length bytes - length x.1) (begins bytes x (is_bytes bytes a) e) (apart_from x.0.operation is))

none_read : (bytes : List ℕ) (o : Option Read) → entry_at bytes ≡ o → AreBytes bytes → IsQuiet bytes → unmarked o ≡ None
none_read bytes None e a quiet = refl
none_read bytes (Some x) e a quiet = quiet_where bytes x (marks x.0.operation) e refl a quiet

quiet_none : (bytes : List ℕ) → AreBytes bytes → IsQuiet bytes → entry_in bytes ≡ None
quiet_none bytes a quiet = none_read bytes (entry_at bytes) refl a quiet

none_quiet : (bytes : List ℕ) → entry_in bytes ≡ None → IsQuiet bytes
none_quiet bytes none e count b stays = absurd (none-some (e, b.rest) (sym none ∙ found_again bytes e count b stays))

-- what was found, which is no mark
record Found (bytes : List ℕ) (x : Read) : Type 0 where
  read : entry_at bytes ≡ Some x
  stays : marks x.0.operation ≡ false

found_where : (bytes : List ℕ) (x y : Read) (m : Bool) → entry_at bytes ≡ Some x → marks x.0.operation ≡ m → chosen m x ≡ Some y
    → Found bytes y
found_where bytes x y true e is some = absurd cc
found_where bytes x y false e is some =
    let same : x ≡ y = some_is x y some in
    record {
      read = e ∙ ap (λ (z : Read). Some z) same;
      stays = sym (ap (λ (z : Read). marks z.0.operation) same) ∙ is;
    }

some_read : (bytes : List ℕ) (o : Option Read) (y : Read) → entry_at bytes ≡ o → unmarked o ≡ Some y → Found bytes y
some_read bytes None y e some = absurd cc
some_read bytes (Some x) y e some = found_where bytes x y (marks x.0.operation) e refl some

-- ---- none

abbrev behind : ℕ → Option Read → List Entry
behind n o = elim o as (λ (found : Option Read). List Entry) [ None ↦ [] | Some x ↦ x.0 ∷ entries_by n x.1 ]

step : (n : ℕ) (bytes : List ℕ) → entries_by (suc n) bytes ≡ behind n (entry_in bytes)
unfolding entries_by
step n bytes = refl

none_at : (n : ℕ) (bytes : List ℕ) → AreBytes bytes → IsQuiet bytes → entries_by n bytes ≡ []
unfolding entries_by
none_at zero bytes a quiet = refl
none_at (suc n) bytes a quiet = step n bytes ∙ ap (behind n) (quiet_none bytes a quiet)

-- Bytes that begin with no entry but a mark come to none.
pub none_in : (bytes : List ℕ) → AreBytes bytes → IsQuiet bytes → entries_in bytes ≡ []
none_in bytes a quiet = none_at (length bytes) bytes a quiet

-- ---- some

pub form_long : (e : Entry) (form : List ℕ) → IsForm e form → 0 < length form
form_long e form is = omega (arith, ap length is.is)

pub empty_quiet : (bytes : List ℕ) → length bytes ≡ 0 → IsQuiet bytes
empty_quiet bytes none e count b stays =
    let long = form_long e b.form b.is_form in
    absurd (omega (arith, long, none, ap length b.parts, length-append b.form b.rest))

-- Bytes that are the forms of some entries without marks, and then begin with none but a mark, come to those.
decoded : (es : List Entry) (n : ℕ) (forms rest : List ℕ) → All Stays es → AreForms es forms → IsQuiet rest → AreBytes rest
    → length (forms ++ rest) ≤ n → entries_by n (forms ++ rest) ≡ es
decoded [] n forms rest all a quiet are le =
    ap (λ (f : List ℕ). entries_by n (f ++ rest)) a ∙ none_at n rest are quiet
decoded (e ∷ es) zero forms rest all a quiet are le =
    let long = form_long e a.0 a.2 in
    absurd (omega (arith, long, le, length-append forms rest, ap length a.3, length-append a.0 a.1))
decoded (e ∷ es) (suc n) forms rest all a quiet are le =
    let long = form_long e a.0 a.2 in
    step n (forms ++ rest)
    ∙ ap (behind n) (found_again (forms ++ rest) e (length a.0) (begin_of e es forms rest (forms ++ rest) a refl) (All-head Stays e es all))
    ∙ ap (λ (xs : List Entry). e ∷ xs) (decoded es n a.1 rest (All-tail Stays e es all) a.4 quiet are
    (omega (arith, long, le, length-append forms rest, ap length a.3, length-append a.0 a.1, length-append a.1 rest)))

pub entries_are : (es : List Entry) (forms rest : List ℕ) → All Stays es → AreForms es forms → IsQuiet rest → AreBytes rest
    → entries_in (forms ++ rest) ≡ es
entries_are es forms rest all a quiet are = decoded es (length (forms ++ rest)) forms rest all a quiet are (omega arith)

pub entries_only : (es : List Entry) (forms : List ℕ) → All Stays es → AreForms es forms → entries_in forms ≡ es
entries_only es forms all a =
    ap (λ (b : List ℕ). entries_in b) (sym (append-nil forms))
    ∙ entries_are es forms [] all a (empty_quiet [] refl) (λ i. omega arith)

-- All bytes are the forms of the entries that they come to, and then begin with none but a mark.
pub record Stands (entries : List Entry) (bytes : List ℕ) : Type 0 where
  pub forms : List ℕ
  pub rest : List ℕ
  pub no_marks : All Stays entries
  pub are_forms : AreForms entries forms
  pub parts : bytes ≡ forms ++ rest
  pub quiet : IsQuiet rest

stands_at : (n : ℕ) (bytes : List ℕ) (o : Option Read) → entry_in bytes ≡ o → length bytes ≤ suc n → AreBytes bytes
    → ((tail : List ℕ) → length tail ≤ n → AreBytes tail → Stands (entries_by n tail) tail) → Stands (behind n o) bytes
stands_at n bytes None e le a next =
    record { forms = []; rest = bytes; no_marks = All-nil Stays; are_forms = refl; parts = refl; quiet = none_quiet bytes e }
stands_at n bytes (Some x) e le a next =
    let found = some_read bytes (entry_at bytes) x refl e in
    let count : ℕ = length bytes - length x.1 in
    let b = begins bytes x (is_bytes bytes a) found.read in
    let same : b.rest ≡ x.1 =
    ap (λ (p : Read). p.1) (some_is (x.0, b.rest) x (sym (read_again bytes x.0 count b) ∙ found.read)) in
    let parts : bytes ≡ b.form ++ x.1 = b.parts ∙ ap (λ (r : List ℕ). b.form ++ r) same in
    let long = form_long x.0 b.form b.is_form in
    let s = next x.1 (omega (arith, long, le, ap length parts, length-append b.form x.1))
    (bytes_behind b.form x.1 (subst (λ (z : List ℕ). AreBytes z) parts a)) in
    record {
      forms = b.form ++ s.forms;
      rest = s.rest;
      no_marks = All-cons Stays x.0 (entries_by n x.1) (apart_from x.0.operation found.stays) s.no_marks;
      are_forms = (b.form, s.forms, b.is_form, refl, s.are_forms);
      parts = parts ∙ ap (λ (r : List ℕ). b.form ++ r) s.parts ∙ sym (append_assoc b.form s.forms s.rest);
      quiet = s.quiet;
    }

none_stands : (bytes : List ℕ) → AreBytes bytes → length bytes ≤ 0 → Stands [] bytes
none_stands bytes a le = record {
  forms = [];
  rest = bytes;
  no_marks = All-nil Stays;
  are_forms = refl;
  parts = refl;
  quiet = empty_quiet bytes (omega (arith, le));
}

stands_by : (n : ℕ) (bytes : List ℕ) → length bytes ≤ n → AreBytes bytes → Stands (entries_by n bytes) bytes
stands_by zero bytes le a =
    subst (λ (es : List Entry). Stands es bytes) (sym (none_at zero bytes a (empty_quiet bytes (omega (arith, le)))))
    (none_stands bytes a le)
stands_by (suc n) bytes le a =
    subst (λ (es : List Entry). Stands es bytes) (sym (step n bytes))
    (stands_at n bytes (entry_in bytes) refl le a (λ tail short are. stands_by n tail short are))

pub stands_in : (bytes : List ℕ) → AreBytes bytes → Stands (entries_in bytes) bytes
stands_in bytes a = stands_by (length bytes) bytes (omega arith) a

-- ---- two lists of entries

pub forms_both : (xs ys : List Entry) (bs cs : List ℕ) → AreForms xs bs → AreForms ys cs → AreForms (xs ++ ys) (bs ++ cs)
forms_both [] ys bs cs a b = subst (λ (z : List ℕ). AreForms ys z) (sym (ap (λ (z : List ℕ). z ++ cs) a)) b
forms_both (x ∷ xs) ys bs cs a b = (
  a.0,
  a.1 ++ cs,
  a.2,
  ap (λ (z : List ℕ). z ++ cs) a.3 ∙ append_assoc a.0 a.1 cs,
  forms_both xs ys a.1 cs a.4 b,
)

-- Bytes behind the forms of some entries come to those, and to what they come to by themselves.
pub entries_both : (es : List Entry) (forms bytes : List ℕ) → All Stays es → AreForms es forms → AreBytes bytes
    → entries_in (forms ++ bytes) ≡ es ++ entries_in bytes
entries_both es forms bytes all a are =
    let s = stands_in bytes are in
    ap (λ (b : List ℕ). entries_in (forms ++ b)) s.parts
    ∙ ap (λ (b : List ℕ). entries_in b) (sym (append_assoc forms s.forms s.rest))
    ∙ entries_are (es ++ entries_in bytes) (forms ++ s.forms) s.rest (All-append Stays es (entries_in bytes) all s.no_marks)
    (forms_both es (entries_in bytes) forms s.forms a s.are_forms)
    s.quiet (bytes_behind s.forms s.rest (subst (λ (z : List ℕ). AreBytes z) s.parts are))

pub one_stays : (e : Entry) → Stays e → All Stays (e ∷ [])
one_stays e stays = All-cons Stays e [] stays (All-nil Stays)

-- The first entry, and those behind it.
pub entries_first : (bytes : List ℕ) (e : Entry) (count : ℕ) → AreBytes bytes → (b : Begins bytes e count) → Stays e
    → entries_in bytes ≡ e ∷ entries_in b.rest
entries_first bytes e count are b stays =
    ap (λ (z : List ℕ). entries_in z) b.parts
    ∙ entries_both (e ∷ []) b.form b.rest (one_stays e stays) (b.form, [], b.is_form, sym (append-nil b.form), refl)
    (bytes_behind b.form b.rest (subst (λ (z : List ℕ). AreBytes z) b.parts are))
