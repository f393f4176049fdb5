-- The bytes of a snapshot, and of the file that begins with it.
use Rattle.std.proofs.Common.{◌≡◌, ℕ, ◌+◌, ◌<◌, List, [], ◌∷◌, ◌++◌, length, take, get_or, refl, sym, ap, subst}
use Rattle.std.proofs.Common.{◌∙◌, append_assoc, length-append, arith}
use Rattle.std.proofs.lemmas.List.{take_more, append-nil}
use Rattle.iceoryx2_log.specs.declared.entry.Entry.{Entry}
use Rattle.iceoryx2_log.specs.Form.{IsForm}
use Rattle.iceoryx2_file_log.specs.declared.header.LogName.{LogName}
use Rattle.iceoryx2_file_log.specs.declared.header.Header.{Header}
use Rattle.iceoryx2_file_log.specs.Header as header
use Rattle.iceoryx2_file_log.specs.Compaction.{AreForms, HasSnapshot}
use Rattle.iceoryx2_file_log.proofs.Headers.{long}

-- one entry's form more
pub forms_push : (entries : List Entry) (e : Entry) (bytes form : List ℕ) → AreForms entries bytes → IsForm e form
    → AreForms (entries ++ e ∷ []) (bytes ++ form)
forms_push [] e bytes form are is =
    (form, [], is, ap (λ (b : List ℕ). b ++ form) are ∙ sym (append-nil form), refl)
forms_push (x ∷ entries) e bytes form are is = (
  are.0,
  are.1 ++ form,
  are.2,
  ap (λ (b : List ℕ). b ++ form) are.3 ∙ append_assoc are.0 are.1 form,
  forms_push entries e are.1 form are.4 is,
)

pub forms_turn : (entries : List Entry) (i : ℕ) (e : Entry) (before form bytes : List ℕ) → i < length entries
    → e ≡ get_or entries i e → AreForms (take i entries) before → IsForm e form → bytes ≡ before ++ form
    → AreForms (take (i + 1) entries) bytes
forms_turn entries i e before form bytes lt same are is parts =
    let next : take (i + 1) entries ≡ take i entries ++ e ∷ [] =
    take_more entries i e lt ∙ ap (λ (x : Entry). take i entries ++ x ∷ []) (sym same) in
    subst (λ (b : List ℕ). AreForms (take (i + 1) entries) b) (sym parts)
    (subst (λ (es : List Entry). AreForms es (before ++ form)) (sym next) (forms_push (take i entries) e before form are is))

pub has_snapshot : (name : LogName) (h : Header) (snapshot front bytes : List ℕ) → h.name ≡ name → h.counter ≡ 0
    → h.snapshot_length ≡ length snapshot → header.IsForm h front → bytes ≡ front ++ snapshot
    → HasSnapshot name snapshot h bytes
has_snapshot name h snapshot front bytes same begins counted is_front is = record {
  front = front;
  is_front = is_front;
  same_log = same;
  begins = begins;
  counted = counted;
  is = is;
  ends = omega (arith, ap length is, length-append front snapshot, long h front is_front, counted);
}
