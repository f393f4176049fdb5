-- What bytes begin with that stand unread in a file.
use Rattle.std.proofs.Common.{◌≡◌, ℕ, ◌+◌, ◌<◌, ◌≤◌, Bool, true, false, cond, ltb, not, List, [], ◌∷◌, ◌++◌, length}
use Rattle.std.proofs.Common.{take, drop, Some, None, refl, sym, ap, subst, ◌∙◌, length-append, arith, inl, inr}
use Rattle.std.specs.Prelude.{◌≢◌, ◌↔◌, Result, Ok, Err, IfOk, OnErr, IsErrOf}
use Rattle.std.specs.Str.{bytes_eq}
use Rattle.std.proofs.lemmas.Bool.{ltb-true, ltb-false, lt-ltb, le-ltb}
use Rattle.std.proofs.lemmas.List.{take-append-drop, length-take, length-drop, take_at, drop_at}
use Rattle.std.proofs.lemmas.Option.{none-some}
use Rattle.std.proofs.lemmas.Slice.Eq.{bytes_eq-Decides}
use Rattle.iceoryx2_data.proofs.PartForms.{some_is}
use Rattle.iceoryx2_log.specs.declared.entry.Entry.{Entry}
use Rattle.iceoryx2_log.specs.declared.form.TheConstants.{HEADER_LENGTH, SUM_LENGTH, MIN_BODY_LENGTH, MAX_BODY_LENGTH}
use Rattle.iceoryx2_log.specs.declared.form.reading.EntryError.{EntryError}
use Rattle.iceoryx2_log.specs.declared.form.reading.EntryError.TheVariants.{CutShort, Malformed, OutOfMemory}
use Rattle.iceoryx2_log.specs.Form.{body, header, sum_of, sealed, IsLength, Begins, IsCutShort}
use Rattle.iceoryx2_log.specs.Reading.{header_at}
use Rattle.iceoryx2_log.proofs.Parts.{header_again, header_of_sealed, sum_length}
use Rattle.iceoryx2_log.proofs.Entries.{HasForm, long_body}
use Rattle.iceoryx2_log.proofs.Found.{short_is, error_only}
use Rattle.iceoryx2_file_log.specs.declared.remainder.Front.{Front}
use Rattle.iceoryx2_file_log.specs.declared.remainder.Front.TheVariants.{Whole, Unfinished, Torn, Damaged}
use Rattle.iceoryx2_file_log.specs.Remainder.{HasWrongSum, IsTorn, sum_differs, wrong_in, has_wrong_sum_in, unread_in}
use Rattle.iceoryx2_file_log.specs.Remainder.{malformed_in, refused_in}
use Rattle.iceoryx2_file_log.specs.Crashes.{BeginsWithNone, EndsAt}

-- ---- the sum

pub equal_bytes : (xs ys : List ℕ) → bytes_eq xs ys ≡ true → xs ≡ ys
equal_bytes xs ys e = grind (arith, bytes_eq-Decides xs ys, e)

bytes_equal : (xs : List ℕ) → bytes_eq xs xs ≡ true
bytes_equal xs = grind (arith, bytes_eq-Decides xs xs)

not_both : {A : Type 0} (b : Bool) → b ≡ true → b ≡ false → A
not_both true is other = absurd cc
not_both false is other = absurd cc

pub differ : (xs ys : List ℕ) → bytes_eq xs ys ≡ false → xs ≢ ys
differ xs ys e same = not_both (bytes_eq xs ys) (ap (λ (zs : List ℕ). bytes_eq xs zs) (sym same) ∙ bytes_equal xs) e

tell_apart : (xs ys : List ℕ) (b : Bool) → bytes_eq xs ys ≡ b → xs ≢ ys → not b ≡ true
tell_apart xs ys true e other = absurd (other (equal_bytes xs ys e))
tell_apart xs ys false e other = refl

else_true : (b c : Bool) → cond b false c ≡ true → (b ≡ false) × (c ≡ true)
else_true true c e = absurd cc
else_true false c e = (refl, e)

then_true : (b c : Bool) → cond b c false ≡ true → (b ≡ true) × (c ≡ true)
then_true true c e = (refl, e)
then_true false c e = absurd cc

true_else : (b c : Bool) → b ≡ false → c ≡ true → cond b false c ≡ true
true_else true c e is = absurd cc
true_else false c e is = is

true_then : (b c : Bool) → b ≡ true → c ≡ true → cond b c false ≡ true
true_then true c e is = is
true_then false c e is = absurd cc

not_true : (b : Bool) → not b ≡ true → b ≡ false
not_true true e = absurd cc
not_true false e = refl

abbrev headed : List ℕ → List ℕ → List ℕ → Bool
headed front sum body = cond (bytes_eq front (header (length body))) (sum_differs sum body) false

abbrev short_enough : List ℕ → List ℕ → List ℕ → Bool
short_enough front sum body = cond (ltb MAX_BODY_LENGTH (length body)) false (headed front sum body)

pub record IsWrong (front sum body : List ℕ) : Type 0 where
  pub is_length : IsLength (length body)
  pub front_is : front ≡ header (length body)
  pub wrong : sum ≢ sum_of body

wrong_parts : (front sum body : List ℕ) → wrong_in front sum body ≡ true → IsWrong front sum body
wrong_parts front sum body e =
    let low = else_true (ltb (length body) MIN_BODY_LENGTH) (short_enough front sum body) e in
    let high = else_true (ltb MAX_BODY_LENGTH (length body)) (headed front sum body) low.1 in
    let head = then_true (bytes_eq front (header (length body))) (sum_differs sum body) high.1 in
    record {
      is_length = (ltb-false (length body) MIN_BODY_LENGTH low.0, ltb-false MAX_BODY_LENGTH (length body) high.0);
      front_is = equal_bytes front (header (length body)) head.0;
      wrong = differ sum (sum_of body) (not_true (bytes_eq sum (sum_of body)) head.1);
    }

parts_wrong : (sum body : List ℕ) → IsLength (length body) → sum ≢ sum_of body
    → wrong_in (header (length body)) sum body ≡ true
parts_wrong sum body is wrong =
    true_else (ltb (length body) MIN_BODY_LENGTH) (short_enough (header (length body)) sum body) (le-ltb (length body) MIN_BODY_LENGTH is.0)
    (true_else (ltb MAX_BODY_LENGTH (length body)) (headed (header (length body)) sum body) (le-ltb MAX_BODY_LENGTH (length body) is.1)
    (true_then (bytes_eq (header (length body)) (header (length body))) (sum_differs sum body) (bytes_equal (header (length body)))
    (tell_apart sum (sum_of body) (bytes_eq sum (sum_of body)) refl wrong)))

wrong_here : (bytes : List ℕ) → HEADER_LENGTH + SUM_LENGTH ≤ length bytes
    → IsWrong (take HEADER_LENGTH bytes) (take SUM_LENGTH (drop HEADER_LENGTH bytes))
    (drop SUM_LENGTH (drop HEADER_LENGTH bytes)) → HasWrongSum bytes
wrong_here bytes long w =
    let after : List ℕ = drop HEADER_LENGTH bytes in
    let apart : bytes ≡ take HEADER_LENGTH bytes ++ (take SUM_LENGTH after ++ drop SUM_LENGTH after) =
    sym (take-append-drop HEADER_LENGTH bytes)
    ∙ ap (λ (r : List ℕ). take HEADER_LENGTH bytes ++ r) (sym (take-append-drop SUM_LENGTH after)) in
    record {
      sum = take SUM_LENGTH after;
      body = drop SUM_LENGTH after;
      is_length = w.is_length;
      parts = apart ∙ ap (λ (f : List ℕ). f ++ (take SUM_LENGTH after ++ drop SUM_LENGTH after)) w.front_is;
      sum_length = omega (arith, length-take SUM_LENGTH after, length-drop HEADER_LENGTH bytes, long);
      wrong = w.wrong;
    }

pub wrong_is : (bytes : List ℕ) → has_wrong_sum_in bytes ≡ true → HasWrongSum bytes
unfolding has_wrong_sum_in
wrong_is bytes e =
    let front : List ℕ = take HEADER_LENGTH bytes in
    let sum : List ℕ = take SUM_LENGTH (drop HEADER_LENGTH bytes) in
    let body : List ℕ = drop SUM_LENGTH (drop HEADER_LENGTH bytes) in
    let long = else_true (ltb (length bytes) (HEADER_LENGTH + SUM_LENGTH)) (wrong_in front sum body) e in
    wrong_here bytes (ltb-false (length bytes) (HEADER_LENGTH + SUM_LENGTH) long.0) (wrong_parts front sum body long.1)

split_wrong : (sum body : List ℕ) → length sum ≡ SUM_LENGTH → wrong_in (header (length body)) sum body ≡ true
    → wrong_in (header (length body)) (take SUM_LENGTH (sum ++ body)) (drop SUM_LENGTH (sum ++ body)) ≡ true
split_wrong sum body len e = rw (take_at sum body SUM_LENGTH len, drop_at sum body SUM_LENGTH len) e

tested : (sum body : List ℕ) → length sum ≡ SUM_LENGTH → wrong_in (header (length body)) sum body ≡ true
    → has_wrong_sum_in (header (length body) ++ (sum ++ body)) ≡ true
unfolding has_wrong_sum_in
tested sum body len e =
    let bytes : List ℕ = header (length body) ++ (sum ++ body) in
    true_else (ltb (length bytes) (HEADER_LENGTH + SUM_LENGTH))
    (wrong_in (header (length body)) (take SUM_LENGTH (sum ++ body)) (drop SUM_LENGTH (sum ++ body)))
    (le-ltb (length bytes) (HEADER_LENGTH + SUM_LENGTH) (omega (arith, length-append sum body, len)))
    (split_wrong sum body len e)

pub is_wrong : (bytes : List ℕ) → HasWrongSum bytes → has_wrong_sum_in bytes ≡ true
is_wrong bytes w = ap has_wrong_sum_in w.parts ∙ tested w.sum w.body w.sum_length (parts_wrong w.sum w.body w.is_length w.wrong)

-- ---- no whole entry is cut off

has : {bytes : List ℕ} {e : Entry} {count : ℕ} → Begins bytes e count → HasForm e
has b = record { limits = b.is_form.limits; short = b.is_form.short }

sealed_in : (bytes : List ℕ) (e : Entry) (count : ℕ) → (b : Begins bytes e count) → bytes ≡ sealed (body e) ++ b.rest
sealed_in bytes e count b = b.parts ∙ ap (λ (f : List ℕ). f ++ b.rest) b.is_form.is

apart : CutShort ≡ OutOfMemory → ⊥
apart e = absurd cc

not_short : (bytes : List ℕ) (e : Entry) (count : ℕ) → Begins bytes e count → IsCutShort bytes → ⊥
not_short bytes e count b short = apart (error_only bytes CutShort (short_is bytes short) e count b)

nothing : (rest : List ℕ) → length rest ≡ 0 → rest ≡ []
nothing [] e = refl
nothing (x ∷ rest) e = absurd (omega arith)

append_nil : (xs : List ℕ) → xs ++ [] ≡ xs
append_nil [] = refl
append_nil (x ∷ xs) = ap (λ (ys : List ℕ). x ∷ ys) (append_nil xs)

same_sum : (sum found inside rest : List ℕ) → length sum ≡ SUM_LENGTH → length found ≡ length inside
    → sum ++ found ≡ sum_of inside ++ (inside ++ rest) → sum ≡ sum_of found
same_sum sum found inside rest len same_length e =
    let sums : sum ≡ sum_of inside =
    sym (take_at sum found SUM_LENGTH len) ∙ ap (λ (xs : List ℕ). take SUM_LENGTH xs) e
    ∙ take_at (sum_of inside) (inside ++ rest) SUM_LENGTH (sum_length inside) in
    let bodies : found ≡ inside ++ rest =
    sym (drop_at sum found SUM_LENGTH len) ∙ ap (λ (xs : List ℕ). drop SUM_LENGTH xs) e
    ∙ drop_at (sum_of inside) (inside ++ rest) SUM_LENGTH (sum_length inside) in
    let none : length rest ≡ 0 = omega (arith, ap length bodies, length-append inside rest, same_length) in
    let whole : found ≡ inside = bodies ∙ ap (λ (r : List ℕ). inside ++ r) (nothing rest none) ∙ append_nil inside in
    sums ∙ ap sum_of (sym whole)

not_wrong : (bytes : List ℕ) (e : Entry) (count : ℕ) → Begins bytes e count → HasWrongSum bytes → ⊥
not_wrong bytes e count b w =
    let long = long_body e (has b) in
    let one : header_at bytes ≡ Some (length w.body, w.sum ++ w.body) =
    ap header_at w.parts ∙ header_again (length w.body) (w.sum ++ w.body) w.is_length in
    let two : header_at bytes ≡ Some (length (body e), sum_of (body e) ++ (body e ++ b.rest)) =
    ap header_at (sealed_in bytes e count b) ∙ header_of_sealed (body e) b.rest long in
    let same = some_is (length w.body, w.sum ++ w.body) (length (body e), sum_of (body e) ++ (body e ++ b.rest)) (sym one ∙ two) in
    w.wrong (same_sum w.sum w.body (body e) b.rest w.sum_length (ap (λ (x : ℕ × List ℕ). x.0) same) (ap (λ (x : ℕ × List ℕ). x.1) same))

pub none_torn_away : (bytes : List ℕ) (e : Entry) (count : ℕ) → IsTorn bytes → Begins bytes e count → ⊥
none_torn_away bytes e count (inl short) b = not_short bytes e count b short
none_torn_away bytes e count (inr wrong) b = not_wrong bytes e count b wrong

-- ---- what front_of answers

pub whole_begins : (bytes : List ℕ) (entry : Entry) (found : ℕ) → Begins bytes entry found → (e : Entry) (count : ℕ)
    → Whole entry found ≡ Whole e count → Begins bytes e count
whole_begins bytes entry found b e count same =
    let one : entry ≡ e = cc in
    let two : found ≡ count = cc in
    subst (λ (x : Entry). Begins bytes x count) one (subst (λ (n : ℕ). Begins bytes entry n) two b)

pub same_whole : (p q : Entry × ℕ) → p ≡ q → Whole p.0 p.1 ≡ Whole q.0 q.1
same_whole p q e = ap (λ (x : Entry × ℕ). Whole x.0 x.1) e

pub unread_not_whole : (b : Bool) (e : Entry) (count : ℕ) → cond b Unfinished Torn ≡ Whole e count → ⊥
unread_not_whole true e count same = absurd cc
unread_not_whole false e count same = absurd cc

pub unread_torn : (b : Bool) → cond b Unfinished Torn ≡ Torn → b ≡ false
unread_torn true e = absurd cc
unread_torn false e = refl

pub unread_unfinished : (b : Bool) → cond b Unfinished Torn ≡ Unfinished → b ≡ true
unread_unfinished true e = refl
unread_unfinished false e = absurd cc

pub malformed_not_whole : (b w : Bool) (e : Entry) (count : ℕ) → cond b Damaged (cond w Torn Damaged) ≡ Whole e count
    → ⊥
malformed_not_whole true w e count same = absurd cc
malformed_not_whole false true e count same = absurd cc
malformed_not_whole false false e count same = absurd cc

pub malformed_torn : (b w : Bool) → cond b Damaged (cond w Torn Damaged) ≡ Torn → (b ≡ false) × (w ≡ true)
malformed_torn true w e = absurd cc
malformed_torn false true e = (refl, refl)
malformed_torn false false e = absurd cc

pub malformed_not_unfinished : (b w : Bool) → cond b Damaged (cond w Torn Damaged) ≡ Unfinished → ⊥
malformed_not_unfinished true w same = absurd cc
malformed_not_unfinished false true same = absurd cc
malformed_not_unfinished false false same = absurd cc

pub torn_unread : (bytes : List ℕ) (left : ℕ) → IsCutShort bytes
    → (unread_in bytes left ≡ Torn) ↔ (IsTorn bytes × (left ≤ length bytes))
torn_unread bytes left short = (
  λ e. (inl short, ltb-false (length bytes) left (unread_torn (ltb (length bytes) left) e)),
  λ t. rw (le-ltb (length bytes) left t.1) refl,
)

pub unfinished_unread : (bytes : List ℕ) (left : ℕ) → IsCutShort bytes
    → (unread_in bytes left ≡ Unfinished) ↔ (IsCutShort bytes × (length bytes < left))
unfinished_unread bytes left short = (
  λ e. (short, ltb-true (length bytes) left (unread_unfinished (ltb (length bytes) left) e)),
  λ t. rw (lt-ltb (length bytes) left t.1) refl,
)

torn_then : (bytes : List ℕ) (left : ℕ) → (IsCutShort bytes → ⊥) → IsTorn bytes → left ≤ length bytes
    → malformed_in bytes left ≡ Torn
torn_then bytes left whole (inl short) le = absurd (whole short)
torn_then bytes left whole (inr wrong) le = rw (le-ltb (length bytes) left le, is_wrong bytes wrong) refl

pub torn_malformed : (bytes : List ℕ) (left : ℕ) → (IsCutShort bytes → ⊥)
    → (malformed_in bytes left ≡ Torn) ↔ (IsTorn bytes × (left ≤ length bytes))
torn_malformed bytes left whole = (
  λ e. let t = malformed_torn (ltb (length bytes) left) (has_wrong_sum_in bytes) e in
      (inr (wrong_is bytes t.1), ltb-false (length bytes) left t.0),
  λ t. torn_then bytes left whole t.0 t.1,
)

pub unfinished_malformed : (bytes : List ℕ) (left : ℕ) → (IsCutShort bytes → ⊥)
    → (malformed_in bytes left ≡ Unfinished) ↔ (IsCutShort bytes × (length bytes < left))
unfinished_malformed bytes left whole = (
  λ e. absurd (malformed_not_unfinished (ltb (length bytes) left) (has_wrong_sum_in bytes) e),
  λ t. absurd (whole t.0),
)

never_whole : (bytes : List ℕ) (left : ℕ) (error : EntryError) (e : Entry) (count : ℕ)
    → refused_in error bytes left ≡ Some (Whole e count) → ⊥
never_whole bytes left CutShort e count same = unread_not_whole (ltb (length bytes) left) e count
    (some_is (unread_in bytes left) (Whole e count) same)
never_whole bytes left Malformed e count same = malformed_not_whole (ltb (length bytes) left) (has_wrong_sum_in bytes) e
    count (some_is (malformed_in bytes left) (Whole e count) same)
never_whole bytes left OutOfMemory e count same = none-some (Whole e count) same

-- what decode promises where it refuses
abbrev failed : EntryError → Result (Entry × ℕ) EntryError
failed e = Err e

abbrev Only : List ℕ → EntryError → Type 0
Only bytes error = (e : Entry) (count : ℕ) → Begins bytes e count → error ≡ OutOfMemory

abbrev Cut : List ℕ → EntryError → Type 0
Cut bytes error = (failed error ≡ failed CutShort) ↔ IsCutShort bytes

abbrev Starved : List ℕ → EntryError → Type 0
Starved bytes error = IsErrOf (failed error) OutOfMemory → (e : Entry) × (count : ℕ) × Begins bytes e count

abbrev Given : {E : Type 0} → List ℕ → ℕ → EntryError → Result Front E → Type 0
Given bytes left error r = IfOk r (λ f. refused_in error bytes left ≡ Some f)

abbrev NotGiven : {E : Type 0} → List ℕ → ℕ → EntryError → Result Front E → Type 0
NotGiven bytes left error r = OnErr r (refused_in error bytes left ≡ None)

pub err_whole : {E : Type 0} (bytes : List ℕ) (left : ℕ) (error : EntryError) (r : Result Front E)
    → Given bytes left error r → IfOk r (λ f. (e : Entry) (count : ℕ) → f ≡ Whole e count → Begins bytes e count)
err_whole bytes left error (Ok f) ok = λ e count same. absurd (never_whole bytes left error e count (ok ∙ ap (λ (g : Front). Some g) same))
err_whole bytes left error (Err x) ok = tt

pub err_only : {E : Type 0} (bytes : List ℕ) (left : ℕ) (error : EntryError) (r : Result Front E) → Only bytes error
    → Given bytes left error r → (e : Entry) (count : ℕ) → Begins bytes e count → IfOk r (λ f. f ≡ Whole e count)
err_only bytes left error (Ok f) only ok e count b = absurd
    (none-some f (sym (ap (λ (x : EntryError). refused_in x bytes left) (only e count b)) ∙ ok))
err_only bytes left error (Err x) only ok e count b = tt

starves : (bytes : List ℕ) (left : ℕ) (error : EntryError) → refused_in error bytes left ≡ None
    → IsErrOf (failed error) OutOfMemory
starves bytes left CutShort none = absurd cc
starves bytes left Malformed none = absurd cc
starves bytes left OutOfMemory none = refl

pub err_memory : {E : Type 0} (bytes : List ℕ) (left : ℕ) (error : EntryError) (r : Result Front E)
    → Starved bytes error → NotGiven bytes left error r → OnErr r ((e : Entry) × (count : ℕ) × Begins bytes e count)
err_memory bytes left error (Ok f) memory none = tt
err_memory bytes left error (Err x) memory none = memory (starves bytes left error none)

never_cut : (bytes : List ℕ) → Cut bytes Malformed → IsCutShort bytes → ⊥
never_cut bytes cut short = let same : failed Malformed ≡ failed CutShort = cut.1 short in absurd cc

refused_torn : (bytes : List ℕ) (left : ℕ) (error : EntryError) (f : Front) → Cut bytes error
    → refused_in error bytes left ≡ Some f → (f ≡ Torn) ↔ (IsTorn bytes × (left ≤ length bytes))
refused_torn bytes left CutShort f cut ok =
    subst (λ (g : Front). (g ≡ Torn) ↔ (IsTorn bytes × (left ≤ length bytes))) (some_is (unread_in bytes left) f ok) (torn_unread bytes left (cut.0 refl))
refused_torn bytes left Malformed f cut ok =
    subst (λ (g : Front). (g ≡ Torn) ↔ (IsTorn bytes × (left ≤ length bytes))) (some_is (malformed_in bytes left) f ok) (torn_malformed bytes left (never_cut bytes cut))
refused_torn bytes left OutOfMemory f cut ok = absurd (none-some f ok)

refused_unfinished : (bytes : List ℕ) (left : ℕ) (error : EntryError) (f : Front) → Cut bytes error
    → refused_in error bytes left ≡ Some f → (f ≡ Unfinished) ↔ (IsCutShort bytes × (length bytes < left))
refused_unfinished bytes left CutShort f cut ok =
    subst (λ (g : Front). (g ≡ Unfinished) ↔ (IsCutShort bytes × (length bytes < left))) (some_is (unread_in bytes left) f ok) (unfinished_unread bytes left (cut.0 refl))
refused_unfinished bytes left Malformed f cut ok =
    subst (λ (g : Front). (g ≡ Unfinished) ↔ (IsCutShort bytes × (length bytes < left))) (some_is (malformed_in bytes left) f ok) (unfinished_malformed bytes left (never_cut bytes cut))
refused_unfinished bytes left OutOfMemory f cut ok = absurd (none-some f ok)

abbrev given : {E : Type 0} → Front → Result Front E
given f = Ok f

given_is : {E : Type 0} (f g : Front) → given {E = E} f ≡ given {E = E} g → f ≡ g
given_is f g e = cc

never_given : {E : Type 0} (x : E) (f : Front) → ◌≡◌ {A = Result Front E} (Err x) (Ok f) → ⊥
never_given x f e = absurd cc

pub err_torn : {E : Type 0} (bytes : List ℕ) (left : ℕ) (error : EntryError) (r : Result Front E) → Cut bytes error
    → Starved bytes error → Given bytes left error r → NotGiven bytes left error r
    → (r ≡ Ok Torn) ↔ (IsTorn bytes × (left ≤ length bytes))
err_torn bytes left error (Ok f) cut memory ok none =
    let iff = refused_torn bytes left error f cut ok in
    (λ e. iff.0 (given_is f Torn e), λ t. ap given (iff.1 t))
err_torn bytes left error (Err x) cut memory ok none =
    let b = memory (starves bytes left error none) in
    (λ e. absurd (never_given x Torn e), λ t. absurd (none_torn_away bytes b.0 b.1 t.0 b.2))

pub err_unfinished : {E : Type 0} (bytes : List ℕ) (left : ℕ) (error : EntryError) (r : Result Front E)
    → Cut bytes error → Starved bytes error → Given bytes left error r → NotGiven bytes left error r
    → (r ≡ Ok Unfinished) ↔ (IsCutShort bytes × (length bytes < left))
err_unfinished bytes left error (Ok f) cut memory ok none =
    let iff = refused_unfinished bytes left error f cut ok in
    (λ e. iff.0 (given_is f Unfinished e), λ t. ap given (iff.1 t))
err_unfinished bytes left error (Err x) cut memory ok none =
    let b = memory (starves bytes left error none) in
    (λ e. absurd (never_given x Unfinished e), λ t. absurd (not_short bytes b.0 b.1 b.2 t.0))

abbrev found : {E : Type 0} → Entry → ℕ → Result Front E
found e count = Ok (Whole e count)

pub ok_torn : {E : Type 0} (bytes : List ℕ) (left : ℕ) (e : Entry) (count : ℕ) → Begins bytes e count
    → found {E = E} e count ≡ Ok Torn ↔ (IsTorn bytes × (left ≤ length bytes))
ok_torn bytes left e count b = (λ same. absurd cc, λ t. absurd (none_torn_away bytes e count t.0 b))

pub ok_unfinished : {E : Type 0} (bytes : List ℕ) (left : ℕ) (e : Entry) (count : ℕ) → Begins bytes e count
    → found {E = E} e count ≡ Ok Unfinished ↔ (IsCutShort bytes × (length bytes < left))
ok_unfinished bytes left e count b = (λ same. absurd cc, λ t. absurd (not_short bytes e count b t.0))

-- ---- at the end of the entries

unread_ends : (E : Type 0) (b : Bool) → b ≡ false → EndsAt (given {E = E} (cond b Unfinished Torn))
unread_ends E true is = absurd cc
unread_ends E false is = tt

malformed_ends : (E : Type 0) (b w : Bool) → EndsAt (given {E = E} (cond b Damaged (cond w Torn Damaged)))
malformed_ends E true w = tt
malformed_ends E false true = tt
malformed_ends E false false = tt

refused_ends : (E : Type 0) (bytes : List ℕ) (left : ℕ) (error : EntryError) (f : Front) → left ≤ length bytes
    → refused_in error bytes left ≡ Some f → EndsAt (given {E = E} f)
refused_ends E bytes left CutShort f le ok =
    subst (λ (g : Front). EndsAt (given {E = E} g)) (some_is (unread_in bytes left) f ok)
    (unread_ends E (ltb (length bytes) left) (le-ltb (length bytes) left le))
refused_ends E bytes left Malformed f le ok =
    subst (λ (g : Front). EndsAt (given {E = E} g)) (some_is (malformed_in bytes left) f ok)
    (malformed_ends E (ltb (length bytes) left) (has_wrong_sum_in bytes))
refused_ends E bytes left OutOfMemory f le ok = absurd (none-some f ok)

pub err_ends : {E : Type 0} (bytes : List ℕ) (left : ℕ) (error : EntryError) (r : Result Front E)
    → Starved bytes error → Given bytes left error r → NotGiven bytes left error r
    → BeginsWithNone bytes → left ≤ length bytes → EndsAt r
err_ends {E} bytes left error (Ok f) memory ok none quiet le = refused_ends E bytes left error f le ok
err_ends bytes left error (Err x) memory ok none quiet le =
    let b = memory (starves bytes left error none) in absurd (quiet b.0 b.1 b.2)
