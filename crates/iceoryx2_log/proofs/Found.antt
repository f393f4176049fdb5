-- What decode returns, and the laws of the byte form.
use Rattle.std.proofs.Common.{◌≡◌, ℕ, ◌+◌, ◌-◌, ◌<◌, ◌≤◌, Bool, true, false, cond, ltb, List, [], ◌∷◌, ◌++◌, length, take, drop, Option, Some, None, refl, sym, ap, ◌∙◌, length-append, arith, inl, inr}
use Rattle.std.specs.Prelude.{Result, Ok, Err, IsErrOf, IsSome, ◌↔◌}
use Rattle.std.proofs.lemmas.Bool.{ltb-true, lt-ltb, le-ltb}
use Rattle.std.proofs.lemmas.List.{append-nil}
use Rattle.std.proofs.lemmas.Option.{none-some}
use Rattle.iceoryx2_data.proofs.PartForms.{IsBytes, some_is}
use Rattle.iceoryx2_log.specs.declared.entry.Entry.{Entry}
use Rattle.iceoryx2_log.specs.declared.form.TheConstants.{HEADER_LENGTH, SUM_LENGTH}
use Rattle.iceoryx2_log.specs.declared.form.reading.EntryError.{EntryError}
use Rattle.iceoryx2_log.specs.declared.form.reading.EntryError.TheVariants.{CutShort, Malformed, OutOfMemory}
use Rattle.iceoryx2_log.specs.Form.{body, sum_of, sealed, IsLength, IsForm, Begins, LacksBody, IsCutShort}
use Rattle.iceoryx2_log.specs.Reading.{header_at, entry_at, lacks_body, is_cut_short, Fails}
use Rattle.iceoryx2_log.proofs.Parts.{header_takes, header_again, header_of_sealed, sum_length}
use Rattle.iceoryx2_log.proofs.Entries.{whole, HasForm, long_body, entry_takes, entry_again}

abbrev Read : Type 0
Read = Entry × List ℕ

-- what is read is in front, in its form
pub begins : (bytes : List ℕ) (x : Read) → IsBytes bytes → entry_at bytes ≡ Some x → Begins bytes x.0 (length bytes - length x.1)
begins bytes x fits e =
    let t = entry_takes bytes x fits e in
    record {
      form = whole x.0;
      rest = x.1;
      is_form = record { limits = t.1.limits; short = t.1.short; is = refl };
      parts = t.0.parts;
      counted = omega (arith, ap length t.0.parts, length-append (whole x.0) x.1);
    }

-- and what is in front in its form is read
pub read_again : (bytes : List ℕ) (e : Entry) (count : ℕ) → (b : Begins bytes e count) → entry_at bytes ≡ Some (e, b.rest)
read_again bytes e count b =
    ap entry_at (b.parts ∙ ap (λ (f : List ℕ). f ++ b.rest) b.is_form.is) ∙ entry_again e b.rest (record { limits = b.is_form.limits; short = b.is_form.short })

pub taken_of : (bytes : List ℕ) (e : Entry) (count : ℕ) → (b : Begins bytes e count) → count ≡ length bytes - length b.rest
taken_of bytes e count b = omega (arith, ap length b.parts, length-append b.form b.rest, b.counted)

-- ---- cut short

lacks : (bytes : List ℕ) (o : Option (ℕ × List ℕ)) → IsBytes bytes → header_at bytes ≡ o → lacks_body o ≡ true → LacksBody bytes
unfolding lacks_body
lacks bytes None fits e is = absurd cc
lacks bytes (Some x) fits e is =
    let t = header_takes bytes x fits e in
    record { announced = x.0; rest = x.1; is_length = t.1; parts = t.0.parts; lacks = ltb-true (length x.1) (SUM_LENGTH + x.0) is }

either_way : (bytes : List ℕ) (b : Bool) → IsBytes bytes → ltb (length bytes) HEADER_LENGTH ≡ b → cond b true (lacks_body (header_at bytes)) ≡ true → IsCutShort bytes
either_way bytes true fits e is = inl (ltb-true (length bytes) HEADER_LENGTH e)
either_way bytes false fits e is = inr (lacks bytes (header_at bytes) fits refl is)

pub is_short : (bytes : List ℕ) → IsBytes bytes → is_cut_short bytes ≡ true → IsCutShort bytes
unfolding is_cut_short
is_short bytes fits is = either_way bytes (ltb (length bytes) HEADER_LENGTH) fits refl is

lacking : (bytes : List ℕ) → LacksBody bytes → lacks_body (header_at bytes) ≡ true
unfolding lacks_body
lacking bytes l =
    let read : header_at bytes ≡ Some (l.announced, l.rest) = ap header_at l.parts ∙ header_again l.announced l.rest l.is_length in
    ap lacks_body read ∙ lt-ltb (length l.rest) (SUM_LENGTH + l.announced) l.lacks

neither : (b c : Bool) → b ≡ false → c ≡ false → cond b true c ≡ false
neither true c h is = absurd cc
neither false c h is = is

or_true : (b c : Bool) → c ≡ true → cond b true c ≡ true
or_true true c is = refl
or_true false c is = is

pub short_is : (bytes : List ℕ) → IsCutShort bytes → is_cut_short bytes ≡ true
unfolding is_cut_short
short_is bytes (inl lt) = rw (lt-ltb (length bytes) HEADER_LENGTH lt) refl
short_is bytes (inr l) = or_true (ltb (length bytes) HEADER_LENGTH) (lacks_body (header_at bytes)) (lacking bytes l)

long_enough : (body rest : List ℕ) → IsLength (length body) → is_cut_short (sealed body ++ rest) ≡ false
unfolding is_cut_short lacks_body
long_enough body rest is =
    let whole_header : ltb (length (sealed body ++ rest)) HEADER_LENGTH ≡ false = le-ltb (length (sealed body ++ rest)) HEADER_LENGTH (omega arith) in
    let enough : ltb (length (sum_of body ++ (body ++ rest))) (SUM_LENGTH + length body) ≡ false =
    le-ltb (length (sum_of body ++ (body ++ rest))) (SUM_LENGTH + length body) (omega (arith, length-append (sum_of body) (body ++ rest), length-append body rest, sum_length body)) in
    neither (ltb (length (sealed body ++ rest)) HEADER_LENGTH) (lacks_body (header_at (sealed body ++ rest))) whole_header (ap lacks_body (header_of_sealed body rest is) ∙ enough)

not_both : {A : Type 0} (b : Bool) → b ≡ true → b ≡ false → A
not_both true is other = absurd cc
not_both false is other = absurd cc

begins_long : (bytes : List ℕ) (e : Entry) (count : ℕ) → (b : Begins bytes e count) → is_cut_short bytes ≡ false
begins_long bytes e count b =
    ap is_cut_short (b.parts ∙ ap (λ (f : List ℕ). f ++ b.rest) b.is_form.is) ∙ long_enough (body e) b.rest (long_body e (record { limits = b.is_form.limits; short = b.is_form.short }))

-- ---- what decode answers

abbrev Decoded : Type 0
Decoded = Result (Entry × ℕ) EntryError

abbrev counted : List ℕ → Read → Entry × ℕ
counted bytes x = (x.0, length bytes - length x.1)

abbrev pair_of : Entry → ℕ → Entry × ℕ
pair_of e n = (e, n)

abbrev decoded : List ℕ → Read → Decoded
decoded bytes x = Ok (counted bytes x)

abbrev failed : EntryError → Decoded
failed e = Err e

pub rest_within : (bytes : List ℕ) (x : Read) → IsBytes bytes → entry_at bytes ≡ Some x → length x.1 ≤ length bytes
rest_within bytes x fits e =
    let t = entry_takes bytes x fits e in omega (arith, ap length t.0.parts, length-append (whole x.0) x.1)

pub found_is : (bytes : List ℕ) (x : Read) → entry_at bytes ≡ Some x → (e : Entry) (count : ℕ) → Begins bytes e count → counted bytes x ≡ (e, count)
found_is bytes x h e count b =
    let same : x ≡ (e, b.rest) = some_is x (e, b.rest) (sym h ∙ read_again bytes e count b) in
    ap (counted bytes) same ∙ ap (λ (n : ℕ). pair_of e n) (sym (taken_of bytes e count b))

pub found_not_cut : (bytes : List ℕ) (x : Read) → is_cut_short bytes ≡ false → decoded bytes x ≡ failed CutShort ↔ IsCutShort bytes
found_not_cut bytes x not_short = (λ e. absurd cc, λ s. not_both (is_cut_short bytes) (short_is bytes s) not_short)

pub error_only : (bytes : List ℕ) (error : EntryError) → Fails (is_cut_short bytes) error (entry_at bytes) → (e : Entry) (count : ℕ) → Begins bytes e count → error ≡ OutOfMemory
error_only bytes CutShort h e count b = not_both (is_cut_short bytes) h (begins_long bytes e count b)
error_only bytes Malformed h e count b = absurd (none-some (e, b.rest) (sym h.1 ∙ read_again bytes e count b))
error_only bytes OutOfMemory h e count b = refl

pub error_cut : (bytes : List ℕ) (error : EntryError) → IsBytes bytes → Fails (is_cut_short bytes) error (entry_at bytes) → failed error ≡ failed CutShort ↔ IsCutShort bytes
error_cut bytes CutShort fits h = (λ e. is_short bytes fits h, λ s. refl)
error_cut bytes Malformed fits h = (λ e. absurd cc, λ s. not_both (is_cut_short bytes) (short_is bytes s) h.0)
error_cut bytes OutOfMemory fits h = (λ e. absurd cc, λ s. not_both (is_cut_short bytes) (short_is bytes s) h.0)

begins_some : (bytes : List ℕ) (o : Option Read) → IsBytes bytes → entry_at bytes ≡ o → IsSome o → (e : Entry) × (count : ℕ) × Begins bytes e count
begins_some bytes None fits e is = absurd cc
begins_some bytes (Some x) fits e is = (x.0, length bytes - length x.1, begins bytes x fits e)

pub error_begins : (bytes : List ℕ) (error : EntryError) → IsBytes bytes → Fails (is_cut_short bytes) error (entry_at bytes) → IsErrOf (failed error) OutOfMemory → (e : Entry) × (count : ℕ) × Begins bytes e count
error_begins bytes CutShort fits h is = absurd cc
error_begins bytes Malformed fits h is = absurd cc
error_begins bytes OutOfMemory fits h is = begins_some bytes (entry_at bytes) fits refl h.1

-- ---- the laws

pub one_form : (e : Entry) (bytes other : List ℕ) → IsForm e bytes → IsForm e other → bytes ≡ other
one_form e bytes other a b = a.is ∙ sym b.is

has : {e : Entry} {bytes : List ℕ} → IsForm e bytes → HasForm e
has f = record { limits = f.limits; short = f.short }

pub no_front : (bytes rest : List ℕ) (c d : Entry) → IsForm c bytes → IsForm d (bytes ++ rest) → rest ≡ []
no_front bytes rest c d fc fd =
    let one : entry_at (bytes ++ rest) ≡ Some (c, rest) = ap (λ (b : List ℕ). entry_at (b ++ rest)) fc.is ∙ entry_again c rest (has fc) in
    let two : entry_at (bytes ++ rest) ≡ Some (d, []) = ap entry_at (fd.is ∙ sym (append-nil (whole d))) ∙ entry_again d [] (has fd) in
    ap (λ (p : Read). p.1) (some_is (c, rest) (d, []) (sym one ∙ two))

pub one_entry : (bytes : List ℕ) (c d : Entry) → IsForm c bytes → IsForm d bytes → c ≡ d
one_entry bytes c d fc fd =
    let one : entry_at (whole c) ≡ Some (c, []) = ap entry_at (sym (append-nil (whole c))) ∙ entry_again c [] (has fc) in
    let two : entry_at (whole d) ≡ Some (d, []) = ap entry_at (sym (append-nil (whole d))) ∙ entry_again d [] (has fd) in
    ap (λ (p : Read). p.0) (some_is (c, []) (d, []) (sym one ∙ ap entry_at (sym fc.is ∙ fd.is) ∙ two))

cut_front : (front rest body : List ℕ) → IsLength (length body) → front ++ rest ≡ sealed body → 0 < length rest → IsCutShort front
cut_front [] rest body is e more = inl (omega arith)
cut_front (a ∷ []) rest body is e more = inl (omega arith)
cut_front (a ∷ b ∷ []) rest body is e more = inl (omega arith)
cut_front (a ∷ b ∷ c ∷ []) rest body is e more = inl (omega arith)
cut_front (a ∷ b ∷ c ∷ d ∷ []) rest body is e more = inl (omega arith)
cut_front (a ∷ b ∷ c ∷ d ∷ f ∷ []) rest body is e more = inl (omega arith)
cut_front (a ∷ b ∷ c ∷ d ∷ f ∷ g ∷ []) rest body is e more = inl (omega arith)
cut_front (a ∷ b ∷ c ∷ d ∷ f ∷ g ∷ h ∷ []) rest body is e more = inl (omega arith)
cut_front (a ∷ b ∷ c ∷ d ∷ f ∷ g ∷ h ∷ i ∷ r) rest body is e more =
    let same : r ++ rest ≡ sum_of body ++ body = ap (λ (xs : List ℕ). drop 8 xs) e in
    inr (record {
      announced = length body;
      rest = r;
      is_length = is;
      parts = ap (λ (xs : List ℕ). take 8 xs ++ r) e;
      lacks = omega (arith, ap length same, length-append r rest, length-append (sum_of body) body, sum_length body, more);
    })

pub cut_is_short : (front rest : List ℕ) (e : Entry) → IsForm e (front ++ rest) → 0 < length rest → IsCutShort front
cut_is_short front rest e form more = cut_front front rest (body e) (long_body e (has form)) form.is more
