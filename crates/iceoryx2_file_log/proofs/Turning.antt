-- What becomes of a file that several handles share.
use Rattle.std.proofs.Common.{◌≡◌, ℕ, List, ◌++◌, take, drop, Option, Some, None, sym, ap, subst, ◌∙◌, append_assoc, take-append-drop}
use Rattle.std.specs.Prelude.{IfSome}
use Rattle.std.proofs.lemmas.List.{drop_at}
use Rattle.iceoryx2_log.specs.declared.entry.Entry.{Entry}
use Rattle.iceoryx2_file_log.specs.declared.header.TheConstants.{HEADER_LENGTH}
use Rattle.iceoryx2_file_log.specs.Place.{Place}
use Rattle.iceoryx2_file_log.specs.Medium.{Known, Keeps, AreBytes}
use Rattle.iceoryx2_file_log.specs.Entries.{entries_in}
use Rattle.iceoryx2_file_log.specs.OneFile.{Fits}
use Rattle.iceoryx2_file_log.specs.Turns.{Changes, ends, changes, none, turn, TurnsKeep, HasTakenAFront}
use Rattle.iceoryx2_file_log.proofs.Keeping.{keeps_alone, keeps_in_turn, more_keeps}
use Rattle.iceoryx2_file_log.proofs.Decoded.{bytes_behind, entries_both}
use Rattle.iceoryx2_file_log.proofs.Positions.{taken_is}

one_change : (standing mid bytes : List ℕ) (at : ℕ) → Keeps standing (take at bytes) → take at mid ≡ take at bytes
    → Keeps standing mid
one_change standing mid bytes at keeps same =
    let whole : mid ≡ take at bytes ++ drop at mid =
    sym (take-append-drop at mid) ∙ ap (λ (b : List ℕ). b ++ drop at mid) same in
    subst (λ (b : List ℕ). Keeps standing b) (sym whole)
    (keeps_in_turn standing (take at bytes) (take at bytes ++ drop at mid) keeps (more_keeps (take at bytes) (drop at mid)))

all_changes : (standing old new : List ℕ) → Keeps standing old → Changes standing old new → Keeps standing new
all_changes standing old new keeps ends = keeps
all_changes standing old new keeps (changes {mid = mid} k at is may same more) =
    all_changes standing mid new
    (one_change standing mid k.bytes at (subst (λ (s : List ℕ). Keeps s (take at k.bytes)) is may.keeps) same) more

pub turns_keep : TurnsKeep
turns_keep old new none = keeps_alone old
turns_keep old new (turn {mid = mid} one more) =
    keeps_in_turn old mid new (all_changes old old mid (keeps_alone old) one) (turns_keep mid new more)

a_front : (p : Place) (k : Known) → Fits p k → HasTakenAFront p k
a_front p k f later turns are =
    let front : List ℕ = take p.position k.bytes in
    let m = turns_keep k.bytes later turns f.taken front f.begins in
    let whole : later ≡ m.header ++ (m.forms ++ m.rest) =
    m.parts ∙ ap (λ (b : List ℕ). b ++ m.rest) m.is_front ∙ append_assoc m.header m.forms m.rest in
    let behind : AreBytes m.rest = bytes_behind front m.rest (subst (λ (b : List ℕ). AreBytes b) m.parts are) in (
      entries_in m.rest,
      ap (λ (es : List Entry). es ++ entries_in m.rest) (taken_is f.taken front k.bytes f.begins)
          ∙ sym (ap (λ (b : List ℕ). entries_in (drop HEADER_LENGTH b)) whole
          ∙ ap (λ (b : List ℕ). entries_in b) (drop_at m.header (m.forms ++ m.rest) HEADER_LENGTH m.is_long)
          ∙ entries_both f.taken m.forms m.rest m.no_marks m.are_forms behind),
    )

pub has_taken_a_front : (p : Place) (o : Option Known) → IfSome o (Fits p) → IfSome o (HasTakenAFront p)
has_taken_a_front p None f = f
has_taken_a_front p (Some k) f = a_front p k f
