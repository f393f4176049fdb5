-- The rule that all who share a file keep.
use Rattle.std.proofs.Common.{◌≡◌, ℕ, List, [], ◌∷◌, ◌++◌, length, take, drop, inl, inr}
use Rattle.std.proofs.Common.{refl, sym, ap, subst, ◌∙◌, append_assoc, take-append-drop}
use Rattle.std.specs.Prelude.{◌≢◌}
use Rattle.std.specs.List.{AllByRecursion as ByRecursion}
use Rattle.std.proofs.lemmas.List.{append-nil, append_cancel_left, take_at, drop_at}
use Rattle.std.proofs.lemmas.List.Elements.{recursion_from_All}
use Rattle.iceoryx2_data.proofs.PartForms.{some_is}
use Rattle.iceoryx2_log.specs.declared.entry.Entry.{Entry}
use Rattle.iceoryx2_log.specs.declared.entry.Operation.TheVariants.{Moved}
use Rattle.iceoryx2_log.specs.Form.{IsForm, Begins}
use Rattle.iceoryx2_log.proofs.Found.{read_again, one_form}
use Rattle.iceoryx2_file_log.specs.declared.header.TheConstants.{HEADER_LENGTH}
use Rattle.iceoryx2_file_log.specs.Compaction.{AreForms, MayBeCut}
use Rattle.iceoryx2_file_log.specs.Medium.{BeginWith, KeepsAlone, KeepsInTurn, MoreKeeps, CutKeeps}
use Rattle.iceoryx2_file_log.proofs.Torn.{none_torn_away}

pub keeps_alone : KeepsAlone
keeps_alone bytes entries front b = b

pub keeps_in_turn : KeepsInTurn
keeps_in_turn old mid new a b entries front x = b entries front (a entries front x)

-- The same front, before other bytes.
pub before : (entries : List Entry) (front old new rest : List ℕ) → BeginWith entries front old → new ≡ front ++ rest
    → BeginWith entries front new
before entries front old new rest b is = record {
  header = b.header;
  forms = b.forms;
  rest = rest;
  is_long = b.is_long;
  are_forms = b.are_forms;
  no_marks = b.no_marks;
  is_front = b.is_front;
  parts = is;
}

pub more_keeps : MoreKeeps
more_keeps bytes more entries front b =
    before entries front bytes (bytes ++ more) (b.rest ++ more) b
    (ap (λ (x : List ℕ). x ++ more) b.parts ∙ append_assoc front b.rest more)

-- ---- entries in front

abbrev pub Read : Type 0
Read = Entry × List ℕ

abbrev pub read : Entry → List ℕ → Read
read e rest = (e, rest)

pub same_front : (bytes : List ℕ) (d e : Entry) (m n : ℕ) (x : Begins bytes d m) (y : Begins bytes e n)
    → read d x.rest ≡ read e y.rest
same_front bytes d e m n x y =
    some_is (read d x.rest) (read e y.rest) (sym (read_again bytes d m x) ∙ read_again bytes e n y)

abbrev pub begin_of : (e : Entry) (entries : List Entry) (forms rest bytes : List ℕ) (are : AreForms (e ∷ entries) forms)
    → bytes ≡ forms ++ rest → Begins bytes e (length are.0)
begin_of e entries forms rest bytes are parts = record {
  form = are.0;
  rest = are.1 ++ rest;
  is_form = are.2;
  parts = parts ∙ ap (λ (b : List ℕ). b ++ rest) are.3 ∙ append_assoc are.0 are.1 rest;
  counted = refl;
}

-- The bytes begin with no entry but a mark.
abbrev pub IsQuiet : List ℕ → Type 0
IsQuiet bytes = (e : Entry) (count : ℕ) → Begins bytes e count → e.operation ≢ Moved → ⊥

-- Where some entries are all that bytes begin with, but for a mark, other entries with which they begin are a front of
-- those.
front_forms : (es fs : List Entry) (f g r s : List ℕ) → ByRecursion (λ e. e.operation ≢ Moved) es → AreForms es f → AreForms fs g
    → f ++ r ≡ g ++ s → IsQuiet s → (more : List ℕ) × (g ≡ f ++ more)
front_forms [] fs f g r s apart a b e quiet = (g, ap (λ (x : List ℕ). x ++ g) (sym a))
front_forms (x ∷ es) [] f g r s apart a b e quiet =
    absurd (quiet x (length a.0) (begin_of x es f r s a (sym (ap (λ (y : List ℕ). y ++ s) b) ∙ sym e)) apart.0)
front_forms (x ∷ es) (y ∷ fs) f g r s apart a b e quiet =
    let front = begin_of x es f r (f ++ r) a refl in
    let other = begin_of y fs g s (f ++ r) b e in
    let same = same_front (f ++ r) x y (length a.0) (length b.0) front other in
    let form : a.0 ≡ b.0 = one_form y a.0 b.0 (subst (λ (z : Entry). IsForm z a.0) (ap (λ (p : Read). p.0) same) a.2) b.2 in
    let next = front_forms es fs a.1 b.1 r s apart.1 a.4 b.4 (ap (λ (p : Read). p.1) same) quiet in (
      next.0,
      b.3 ∙ ap (λ (z : List ℕ). z ++ b.1) (sym form) ∙ ap (λ (z : List ℕ). a.0 ++ z) next.1
          ∙ sym (append_assoc a.0 a.1 next.0) ∙ ap (λ (z : List ℕ). z ++ next.0) (sym a.3),
    )

-- What may be cut off begins with no entry but a mark.
pub quiet_cut : (bytes : List ℕ) → MayBeCut bytes → IsQuiet bytes
quiet_cut bytes (inl torn) e count b apart = none_torn_away bytes e count torn b
quiet_cut bytes (inr m) e count b apart =
    let whole : Begins bytes m.mark (length bytes) = record {
      form = bytes;
      rest = [];
      is_form = m.is_form;
      parts = sym (append-nil bytes);
      counted = refl;
    } in
    let same = same_front bytes m.mark e (length bytes) count whole b in
    apart (sym (ap (λ (p : Read). p.0.operation) same) ∙ m.moves)

pub cut_keeps : CutKeeps
cut_keeps at taken bytes t may entries front x =
    let all : x.header ++ (x.forms ++ x.rest) ≡ t.header ++ (t.forms ++ t.rest) =
    sym (x.parts ∙ ap (λ (b : List ℕ). b ++ x.rest) x.is_front ∙ append_assoc x.header x.forms x.rest)
    ∙ t.parts ∙ ap (λ (b : List ℕ). b ++ t.rest) t.is_front ∙ append_assoc t.header t.forms t.rest in
    let header : x.header ≡ t.header =
    sym (take_at x.header (x.forms ++ x.rest) HEADER_LENGTH x.is_long)
    ∙ ap (λ (b : List ℕ). take HEADER_LENGTH b) all ∙ take_at t.header (t.forms ++ t.rest) HEADER_LENGTH t.is_long in
    let behind : x.forms ++ x.rest ≡ t.forms ++ t.rest =
    sym (drop_at x.header (x.forms ++ x.rest) HEADER_LENGTH x.is_long)
    ∙ ap (λ (b : List ℕ). drop HEADER_LENGTH b) all ∙ drop_at t.header (t.forms ++ t.rest) HEADER_LENGTH t.is_long in
    let rest : drop at bytes ≡ t.rest =
    append_cancel_left (take at bytes) (drop at bytes) t.rest (take-append-drop at bytes ∙ t.parts) in
    let quiet : IsQuiet t.rest = subst (λ (b : List ℕ). IsQuiet b) rest (quiet_cut (drop at bytes) may) in
    let m = front_forms entries taken x.forms t.forms x.rest t.rest
    (recursion_from_All (λ (e : Entry). e.operation ≢ Moved) entries x.no_marks) x.are_forms t.are_forms behind quiet in
    before entries front bytes (take at bytes) m.0 x
    (t.is_front ∙ ap (λ (b : List ℕ). b ++ t.forms) (sym header) ∙ ap (λ (b : List ℕ). x.header ++ b) m.1
    ∙ sym (append_assoc x.header x.forms m.0) ∙ ap (λ (b : List ℕ). b ++ m.0) (sym x.is_front))
