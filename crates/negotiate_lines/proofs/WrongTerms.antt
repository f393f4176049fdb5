-- What is wrong with a term.
use Rattle.std.proofs.Common.{◌≡◌, ℕ, Bool, true, false, List, [], ◌∷◌, Option, Some, None, MatchOption, codes, bytes_eq, refl, sym, ap, subst, ◌∙◌}
use Rattle.std.specs.Prelude.{Result, Ok, Err, if◌then◌else◌}
use Rattle.iceoryx2_builder.specs.declared.command.How.{How}
use Rattle.iceoryx2_builder.specs.declared.command.How.TheVariants as how
use Rattle.iceoryx2_description.specs.Span.{Span}
use Rattle.iceoryx2_description.specs.declared.time.ClockFault.{ClockFault}
use Rattle.negotiate_lines.specs.declared.leaf.Form.{Form}
use Rattle.negotiate_lines.specs.declared.call_term.CallTerm.{CallTerm}
use Rattle.negotiate_lines.specs.declared.term.TermError.{TermError}
use Rattle.negotiate_lines.specs.declared.term.TermError.TheVariants as error
use Rattle.negotiate_lines.specs.declared.line_error.LineFailure.{LineFailure}
use Rattle.negotiate_lines.specs.declared.line_error.LineFailure.TheVariants as failure
use Rattle.negotiate_lines.specs.declared.vocabulary.Kind.{Kind}
use Rattle.negotiate_lines.specs.Terms.{AreAround}
use Rattle.negotiate_lines.specs.Values.{IsClockTerm}
use Rattle.negotiate_lines.specs.Vocabulary.{Vocabulary, VocabularyRow, Takes, Sets, IsSettingOf, kind_of, kinds_of, row_of, common_rows}
use Rattle.negotiate_lines.specs.CallTerms.{Arguments, Instruction, setting, now, attribute, required_key, Follows, IsCommonOf, IsInstructionOf, IsValueOf, TakesTerm, IsRead}
use Rattle.negotiate_lines.specs.Commands.{admitted_of}
use Rattle.negotiate_lines.specs.Wrongs.{Judges, WrongStep, WrongTerm, refused, IsNoValue}
use Rattle.negotiate_lines.proofs.OneInstruction.{one_instruction}

module _ {S : Type 0} (form : Form) (v : Vocabulary S) (h : How) (old : Arguments S) (term : List ℕ) where
  -- what a term means is followed, or it is wrong
  pub follows_judged : (instruction : Instruction S) → IsInstructionOf form v (admitted_of v.has_clock h) term instruction → (r : Result (Arguments S) LineFailure)
      → Judges (Follows form old instruction) (WrongStep form old instruction) r → Judges (TakesTerm form v (admitted_of v.has_clock h) old term) (WrongTerm form v h old term) r
  follows_judged instruction is_such (Ok new) follows = (instruction, is_such, follows)
  follows_judged instruction is_such (Err (failure.Wrong w)) judged = (
    λ new taken.
        judged.0 new (subst (λ (i : Instruction S). Follows form old i new) (one_instruction form v (admitted_of v.has_clock h) term taken.0 instruction taken.1 is_such) taken.2),
    refused instruction is_such judged.1,
  )
  follows_judged instruction is_such (Err failure.OutOfMemory) judged = tt

-- what is malformed means nothing
pub malformed : {S : Type 0} (IsSuch : Instruction S → Type 0) (r : Result (CallTerm S) TermError) (e : TermError) → r ≡ Err e → e ≡ error.Malformed
    → IsRead IsSuch r → (instruction : Instruction S) → IsSuch instruction → ⊥
malformed {S = S} IsSuch r e is same read = subst (λ (x : Result (CallTerm S) TermError). IsRead IsSuch x) (is ∙ ap (λ (f : TermError). Err f) same) read

-- ---- settings

-- There is a row, of this kind.
pub record HasKind {S : Type 0} (found : Option (Takes S)) (kind : Kind) : Type 0 where
  pub takes : Takes S
  pub row : found ≡ Some takes
  pub kind_is : kind ≡ kind_of takes

got : {A : Type 0} → A → Option A → A
got d None = d
got d (Some a) = a

module _ {S : Type 0} (takes : Takes S) where
  kind_if : (b : Bool) (kinds : Option Kind) (others : Option (Takes S)) (kind : Kind) → (kinds ≡ Some kind → HasKind others kind)
      → (if b then Some (kind_of takes) else kinds) ≡ Some kind → HasKind (if b then Some takes else others) kind
  unfolding got
  kind_if true kinds others kind more e = record { takes = takes; row = refl; kind_is = sym (ap (got kind) e) }
  kind_if false kinds others kind more e = more e

  none_if : (b : Bool) (kinds : Option Kind) (others : Option (Takes S)) → (kinds ≡ None → others ≡ None)
      → (if b then Some (kind_of takes) else kinds) ≡ None → (if b then Some takes else others) ≡ None
  none_if true kinds others more e = absurd cc
  none_if false kinds others more e = more e

-- the kind that is found is that of the row
pub row_of_kind : {S : Type 0} (rows : List (VocabularyRow S)) (name : List ℕ) (kind : Kind) → row_of (kinds_of rows) name ≡ Some kind → HasKind (row_of rows name) kind
row_of_kind [] name kind e = absurd cc
row_of_kind (row ∷ rows) name kind e = kind_if row.1 (bytes_eq name row.0) _ _ kind (row_of_kind rows name kind) e

pub no_row_of_kind : {S : Type 0} (rows : List (VocabularyRow S)) (name : List ℕ) → row_of (kinds_of rows) name ≡ None → row_of rows name ≡ None
no_row_of_kind [] name e = refl
no_row_of_kind (row ∷ rows) name e = none_if row.1 (bytes_eq name row.0) _ _ (no_row_of_kind rows name) e

-- a value that its setting doesn't take
pub no_value : {S : Type 0} (form : Form) (v : Vocabulary S) (h : How) (name value : List ℕ) (kind : Kind)
    → ((instruction : Instruction S) → IsValueOf form v.rows (admitted_of v.has_clock h) name value instruction → ⊥)
    → row_of common_rows name ≡ None → row_of (kinds_of v.rows) name ≡ Some kind → IsNoValue form v name value kind
no_value {S = S} form v h name value kind none common found =
    let has = row_of_kind v.rows name kind found in
    record {
      takes = has.takes;
      row = has.row;
      kind_is = has.kind_is;
      none = λ s sets.
          none (setting s)
          (subst (λ c. MatchOption c ((t : S) × IsSettingOf form v.rows name value t × (setting s ≡ setting t)) (λ common. IsCommonOf (admitted_of v.has_clock h) common value (setting s)))
          (sym common) (s, subst (λ r. MatchOption r ⊥ (λ takes. Sets form takes value s)) (sym has.row) sets, refl));
    }

-- ---- the clock, and keys

module _ {S : Type 0} (form : Form) (v : Vocabulary S) (h : How) (value : List ℕ) where
  pub no_time : (admitted_of v.has_clock h).now ≡ true
      → ((instruction : Instruction S) → IsValueOf form v.rows (admitted_of v.has_clock h) (codes "now") value instruction → ⊥)
      → (time : Result Span ClockFault) → IsClockTerm value time → ⊥
  no_time on none time is = none (now time) (on, (time, is, refl))

  pub no_colon : ((instruction : Instruction S) → IsValueOf form v.rows (admitted_of v.has_clock h) (codes "attribute") value instruction → ⊥)
      → (front back : List ℕ) → AreAround 58 value front back → ⊥
  no_colon none front back around = none (attribute front back) (record { key = front; text = back; around = around; is = refl })

-- a key that means nothing is one of a create
pub key_of_create : {S : Type 0} (form : Form) (v : Vocabulary S) (h : How) (value : List ℕ)
    → ((instruction : Instruction S) → IsValueOf form v.rows (admitted_of v.has_clock h) (codes "require_key") value instruction → ⊥) → h ≡ how.Create
key_of_create form v how.Create value none = refl
key_of_create form v how.Open value none = absurd (none (required_key value) (refl, refl))
key_of_create form v how.OpenOrCreate value none = absurd (none (required_key value) (refl, refl))

-- what is meant behind a name is meant behind the same name
pub behind_name : {S : Type 0} (form : Form) (v : Vocabulary S) (h : How) (name other value : List ℕ) → name ≡ other
    → ((instruction : Instruction S) → IsValueOf form v.rows (admitted_of v.has_clock h) name value instruction → ⊥)
    → (instruction : Instruction S) → IsValueOf form v.rows (admitted_of v.has_clock h) other value instruction → ⊥
behind_name form v h name other value same none instruction is_such =
    none instruction (subst (λ (n : List ℕ). IsValueOf form v.rows (admitted_of v.has_clock h) n value instruction) (sym same) is_such)
