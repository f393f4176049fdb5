-- What bytes stand for, and what a crash makes of it.
use Rattle.std.proofs.Common.{◌≡◌, inl, inr, ℕ, ◌+◌, ◌≤◌, Bool, true, false, List, [], ◌∷◌, ◌++◌, length}
use Rattle.std.proofs.Common.{take, drop, refl, sym, ap, subst, ◌∙◌, append_assoc, length-append, take-append-drop, arith}
use Rattle.std.specs.Str.{bytes_eq}
use Rattle.std.proofs.lemmas.List.{append-nil, length-drop, length-take-le, take_all, take_at, drop_at}
use Rattle.iceoryx2_log.specs.declared.entry.Entry.{Entry}
use Rattle.iceoryx2_log.specs.Form.{IsForm, Begins}
use Rattle.iceoryx2_log.proofs.Found.{one_form, one_entry, no_front}
use Rattle.iceoryx2_file_log.specs.Compaction.{AreForms}
use Rattle.iceoryx2_file_log.specs.Crashes.{BeginsWithNone, BeginsWithNoOther, StandsFor, StandsWithOrWithout}
use Rattle.iceoryx2_file_log.specs.Crashes.{MayLeaveOfCut, OneListEach, AppendsOrNot, FrontsFit, AppendsWhenWritten}
use Rattle.iceoryx2_file_log.specs.Crashes.{KeepsAppended, CutsNoEntry, CutsOrNot, NoneSkipped, NoneInvented}
use Rattle.iceoryx2_file_log.proofs.Keeping.{Read, begin_of, same_front}
use Rattle.iceoryx2_file_log.proofs.Torn.{equal_bytes, differ}
use Rattle.iceoryx2_file_log.proofs.Snapshots.{forms_push}

-- ---- one list of entries

one_list : (es fs : List Entry) (bs cs r s : List ℕ) → AreForms es bs → AreForms fs cs → bs ++ r ≡ cs ++ s
    → BeginsWithNone r → BeginsWithNone s → (es ≡ fs) × (r ≡ s)
one_list [] [] bs cs r s a b e quiet still =
    (refl, sym (ap (λ (x : List ℕ). x ++ r) a) ∙ e ∙ ap (λ (x : List ℕ). x ++ s) b)
one_list [] (f ∷ fs) bs cs r s a b e quiet still =
    absurd (quiet f (length b.0) (begin_of f fs cs s r b (sym (ap (λ (x : List ℕ). x ++ r) a) ∙ e)))
one_list (x ∷ es) [] bs cs r s a b e quiet still =
    absurd (still x (length a.0) (begin_of x es bs r s a (sym (ap (λ (y : List ℕ). y ++ s) b) ∙ sym e)))
one_list (x ∷ es) (f ∷ fs) bs cs r s a b e quiet still =
    let front = begin_of x es bs r (bs ++ r) a refl in
    let same = same_front (bs ++ r) x f (length a.0) (length b.0) front (begin_of f fs cs s (bs ++ r) b e) in
    let next = one_list es fs a.1 b.1 r s a.4 b.4 (ap (λ (p : Read). p.1) same) quiet still in
    (ap (λ (p : Read). p.0 ∷ es) same ∙ ap (λ (ys : List Entry). f ∷ ys) next.0, next.1)

pub one_list_each : OneListEach
one_list_each bytes entries others rest other a b =
    one_list entries others a.forms b.forms rest other a.are_forms b.are_forms (sym a.parts ∙ b.parts) a.no_more b.no_more

-- ---- an append

nothing : (xs : List ℕ) → length xs ≡ 0 → xs ≡ []
nothing [] e = refl
nothing (x ∷ xs) e = absurd (omega arith)

pushed : (entries : List Entry) (e : Entry) (old form : List ℕ) → StandsFor old entries [] → IsForm e form
    → StandsFor (old ++ form) (entries ++ e ∷ []) []
pushed entries e old form s is = record {
  forms = s.forms ++ form;
  are_forms = forms_push entries e s.forms form s.are_forms is;
  parts = ap (λ (b : List ℕ). b ++ form) (s.parts ∙ append-nil s.forms) ∙ sym (append-nil (s.forms ++ form));
  no_more = s.no_more;
}

pub appends_when_written : AppendsWhenWritten
appends_when_written = pushed

-- with another rest
rested : (entries : List Entry) (old rest : List ℕ) → StandsFor old entries [] → BeginsWithNone rest
    → StandsFor (old ++ rest) entries rest
rested entries old rest s quiet = record {
  forms = s.forms;
  are_forms = s.are_forms;
  parts = ap (λ (b : List ℕ). b ++ rest) (s.parts ∙ append-nil s.forms);
  no_more = quiet;
}

-- Behind the entries stands the whole form of this one, or what begins with none.
either : (entries : List Entry) (e : Entry) (old form tail : List ℕ) (b : Bool) → StandsFor old entries []
    → IsForm e form → bytes_eq tail form ≡ b → ((tail ≡ form → ⊥) → BeginsWithNone tail)
    → StandsWithOrWithout entries e tail (old ++ tail)
either entries e old form tail true s is test quiet =
    inr (subst (λ (x : List ℕ). StandsFor (old ++ x) (entries ++ e ∷ []) []) (sym (equal_bytes tail form test))
    (pushed entries e old form s is))
either entries e old form tail false s is test quiet =
    inl (rested entries old tail s (quiet (differ tail form test)))

-- what fits into the form of the only entry with which it may begin
no_other : (e : Entry) (form tail : List ℕ) → IsForm e form → length tail ≤ length form → BeginsWithNoOther e tail
    → (tail ≡ form → ⊥) → BeginsWithNone tail
no_other e form tail is short other differs d count b =
    let same : b.form ≡ form =
    one_form e b.form form (subst (λ (x : Entry). IsForm x b.form) (other d count b) b.is_form) is in
    let ends : b.rest ≡ [] = nothing b.rest (omega (arith, ap length b.parts, length-append b.form b.rest, ap length same, short)) in
    differs (b.parts ∙ ap (λ (r : List ℕ). b.form ++ r) ends ∙ append-nil b.form ∙ same)

pub appends_or_not : AppendsOrNot
appends_or_not entries e old form new s is left other =
    let at : ℕ = length old in
    let tail : List ℕ = drop at new in
    let whole : new ≡ old ++ tail =
    sym (take-append-drop at new) ∙ ap (λ (b : List ℕ). b ++ tail) (left.before ∙ take_all at old (omega arith)) in
    let short : length tail ≤ length form = omega (
      arith,
      length-drop (at + length form) new,
      length-drop (at + length form) old,
      ap length left.after,
      length-drop at new,
    ) in
    subst (λ (b : List ℕ). StandsWithOrWithout entries e tail b) (sym whole)
    (either entries e old form tail (bytes_eq tail form) s is refl (no_other e form tail is short other))

pub fronts_fit : FrontsFit
fronts_fit e written missing is d count b =
    let whole : written ++ missing ≡ b.form ++ (b.rest ++ missing) =
    ap (λ (w : List ℕ). w ++ missing) b.parts ∙ append_assoc b.form b.rest missing in
    let form : IsForm e (b.form ++ (b.rest ++ missing)) = subst (λ (x : List ℕ). IsForm e x) whole is in
    let ends : b.rest ++ missing ≡ [] = no_front b.form (b.rest ++ missing) d e b.is_form form in
    one_entry b.form d e b.is_form
    (subst (λ (x : List ℕ). IsForm e x) (ap (λ (x : List ℕ). b.form ++ x) ends ∙ append-nil b.form) form)

forms_append : (xs ys : List Entry) (bs cs : List ℕ) → AreForms xs bs → AreForms ys cs → AreForms (xs ++ ys) (bs ++ cs)
forms_append [] ys bs cs a b =
    subst (λ (z : List ℕ). AreForms ys z) (sym (ap (λ (z : List ℕ). z ++ cs) a)) b
forms_append (x ∷ xs) ys bs cs a b = (
  a.0,
  a.1 ++ cs,
  a.2,
  ap (λ (z : List ℕ). z ++ cs) a.3 ∙ append_assoc a.0 a.1 cs,
  forms_append xs ys a.1 cs a.4 b,
)

pub keeps_appended : KeepsAppended
keeps_appended entries appended e old forms form new s are is left other =
    let stands : StandsFor (old ++ forms) (entries ++ appended) [] = record {
      forms = s.forms ++ forms;
      are_forms = forms_append entries appended s.forms forms s.are_forms are;
      parts = ap (λ (b : List ℕ). b ++ forms) (s.parts ∙ append-nil s.forms) ∙ sym (append-nil (s.forms ++ forms));
      no_more = s.no_more;
    } in
    appends_or_not (entries ++ appended) e (old ++ forms) form new stands is left other

-- ---- a cut

more_begins : (xs ys : List ℕ) (e : Entry) (count : ℕ) → Begins xs e count → Begins (xs ++ ys) e count
more_begins xs ys e count b = record {
  form = b.form;
  rest = b.rest ++ ys;
  is_form = b.is_form;
  parts = ap (λ (x : List ℕ). x ++ ys) b.parts ∙ append_assoc b.form b.rest ys;
  counted = b.counted;
}

front_begins_with_none : (xs ys : List ℕ) → BeginsWithNone (xs ++ ys) → BeginsWithNone xs
front_begins_with_none xs ys quiet e count b = quiet e count (more_begins xs ys e count b)

-- how two ways to part bytes go together
pub record Splits (xs ys zs ws : List ℕ) : Type 0 where
  pub front : zs ≡ xs ++ drop (length xs) zs
  pub behind : ys ≡ drop (length xs) zs ++ ws

splits : (xs ys zs ws : List ℕ) → xs ++ ys ≡ zs ++ ws → length xs ≤ length zs → Splits xs ys zs ws
splits xs ys zs ws same le =
    let n : ℕ = length xs in
    let tail : List ℕ = drop n zs in
    let parts : zs ≡ take n zs ++ tail = sym (take-append-drop n zs) in
    let long : length (take n zs) ≡ n = length-take-le n zs le in
    let both : xs ++ ys ≡ take n zs ++ (tail ++ ws) =
    same ∙ ap (λ (z : List ℕ). z ++ ws) parts ∙ append_assoc (take n zs) tail ws in
    let front : xs ≡ take n zs =
    sym (take_at xs ys n refl) ∙ ap (λ (z : List ℕ). take n z) both ∙ take_at (take n zs) (tail ++ ws) n long in
    record {
      front = parts ∙ ap (λ (z : List ℕ). z ++ tail) (sym front);
      behind = sym (drop_at xs ys n refl) ∙ ap (λ (z : List ℕ). drop n z) both ∙ drop_at (take n zs) (tail ++ ws) n long;
    }

-- what is left of a cut is a front of what was there
cut_parts : (n : ℕ) (old new : List ℕ) → MayLeaveOfCut n old new → old ≡ new ++ drop (length new) old
cut_parts n old new left =
    sym (take-append-drop (length new) old) ∙ ap (λ (z : List ℕ). z ++ drop (length new) old) left.front

pub cuts_no_entry : CutsNoEntry
cuts_no_entry entries at old rest new s long left =
    let counted : at ≡ length s.forms = omega (arith, long, ap length s.parts, length-append s.forms rest) in
    let is = splits s.forms rest new (drop (length new) old) (sym s.parts ∙ cut_parts at old new left) (omega (arith, left.no_shorter, counted)) in
    subst (λ (n : ℕ). StandsFor new entries (drop n new)) (sym counted) (record {
      forms = s.forms;
      are_forms = s.are_forms;
      parts = is.front;
      no_more = front_begins_with_none (drop (length s.forms) new) (drop (length new) old)
          (subst (λ (r : List ℕ). BeginsWithNone r) is.behind s.no_more);
    })

-- a front of the form that isn't all of it
no_whole : (e : Entry) (form tail more : List ℕ) → IsForm e form → form ≡ tail ++ more → (tail ≡ form → ⊥)
    → BeginsWithNone tail
no_whole e form tail more is parts differs d count b =
    let whole : form ≡ b.form ++ (b.rest ++ more) =
    parts ∙ ap (λ (t : List ℕ). t ++ more) b.parts ∙ append_assoc b.form b.rest more in
    let ends : b.rest ++ more ≡ [] =
    no_front b.form (b.rest ++ more) d e b.is_form (subst (λ (x : List ℕ). IsForm e x) whole is) in
    let none_more : more ≡ [] = nothing more (omega (arith, ap length ends, length-append b.rest more)) in
    differs (sym (append-nil tail) ∙ ap (λ (m : List ℕ). tail ++ m) (sym none_more) ∙ sym parts)

pub cuts_or_not : CutsOrNot
cuts_or_not entries e old form new s is left =
    let at : ℕ = length old in
    let tail : List ℕ = drop at new in
    let more : List ℕ = drop (length new) (old ++ form) in
    let both = splits old form new more (cut_parts at (old ++ form) new left) left.no_shorter in
    subst (λ (b : List ℕ). StandsWithOrWithout entries e tail b) (sym both.front)
    (either entries e old form tail (bytes_eq tail form) s is refl (no_whole e form tail more is both.behind))

-- ---- a reader

pub none_skipped : NoneSkipped
none_skipped bytes e entries rest s =
    let are = s.are_forms in
    let front = begin_of e entries s.forms rest bytes are s.parts in (
      length are.0,
      front,
      record {
        forms = are.1;
        are_forms = are.4;
        parts = ap (λ (b : List ℕ). drop (length are.0) b)
            (s.parts ∙ ap (λ (b : List ℕ). b ++ rest) are.3 ∙ append_assoc are.0 are.1 rest)
            ∙ drop_at are.0 (are.1 ++ rest) (length are.0) refl;
        no_more = s.no_more;
      },
    )

pub none_invented : NoneInvented
none_invented bytes e count [] rest s b =
    absurd (s.no_more e count (subst (λ (x : List ℕ). Begins x e count)
    (s.parts ∙ ap (λ (f : List ℕ). f ++ rest) s.are_forms) b))
none_invented bytes e count (x ∷ entries) rest s b =
    let next = none_skipped bytes x entries rest s in
    let same = same_front bytes x e next.0 count next.1 b in
    let counts : next.0 ≡ count = omega (
      arith,
      next.1.counted,
      b.counted,
      ap length next.1.parts,
      ap length b.parts,
      length-append next.1.form next.1.rest,
      length-append b.form b.rest,
      ap (λ (p : Read). length p.1) same,
    ) in (
      entries,
      ap (λ (p : Read). p.0 ∷ entries) same,
      subst (λ (n : ℕ). StandsFor (drop n bytes) entries rest) counts next.2,
    )
