-- What the terms behind a service's name make of a call, one after the other, in a pattern's vocabulary.
use Rattle.std.specs.Prelude.{ℕ, ◌≡◌, List, [], ◌∷◌, ◌++◌, MatchOption, Result, Ok, Err, IsTrue}
use Rattle.std.specs.Result.{result_map_both}
use Rattle.iceoryx2_attribute.specs.Attributes.{pair_of}
use Rattle.iceoryx2_attribute.specs.Requirements.{Requirements, no_requirements}
use Rattle.iceoryx2_attribute.specs.Additions.{AddsPair, AddsKey}
use Rattle.iceoryx2_description.specs.declared.time.ClockFault.{ClockFault}
use Rattle.iceoryx2_description.specs.Span.{Span, zero_span}
use Rattle.iceoryx2_access.specs.Run.{Run}
use Rattle.negotiate_lines.specs.declared.call_term.CallTerm.{CallTerm}
use Rattle.negotiate_lines.specs.declared.leaf.Form.{Form}
use Rattle.negotiate_lines.specs.Leaves.{IsLeaf}
use Rattle.negotiate_lines.specs.declared.call_term.CallTerm.TheVariants as term
use Rattle.negotiate_lines.specs.declared.vocabulary.Admitted.{Admitted}
use Rattle.negotiate_lines.specs.declared.term.TermError.{TermError}
use Rattle.negotiate_lines.specs.Terms.{AreAround, Reads}
use Rattle.negotiate_lines.specs.Values.{IsClockTerm}
use Rattle.negotiate_lines.specs.Vocabulary.{VocabularyRow, Vocabulary, IsSettingOf, row_of}
use Rattle.negotiate_lines.specs.Vocabulary.{CommonTerm, clock_term, pair_term, key_term, common_rows}

-- ---- one term

-- what a term gives a call: of a pair and of a key it has the leaves
pub data Instruction (S : Type 0) : Type 0 where
  setting : S → Instruction S
  now : Result Span ClockFault → Instruction S
  attribute : (key value : List ℕ) → Instruction S
  required_key : (key : List ℕ) → Instruction S

-- a pair, around the first colon
pub record IsPairOf {S : Type 0} (value : List ℕ) (instruction : Instruction S) : Type 0 where
  pub key : List ℕ
  pub text : List ℕ
  pub around : AreAround 58 value key text
  pub is : instruction ≡ attribute key text

-- what a value means behind each of them, where it goes with the call
abbrev pub IsCommonOf : {S : Type 0} → Admitted → CommonTerm → List ℕ → Instruction S → Type 0
IsCommonOf admitted clock_term value instruction =
    IsTrue admitted.now × ((time : Result Span ClockFault) × IsClockTerm value time × (instruction ≡ now time))
IsCommonOf admitted pair_term value instruction = IsPairOf value instruction
IsCommonOf admitted key_term value instruction = IsTrue admitted.require_key × (instruction ≡ required_key value)

-- what a value means behind any name
abbrev pub IsValueOf : {S : Type 0} → Form → List (VocabularyRow S) → Admitted → (name value : List ℕ)
    → Instruction S → Type 0
IsValueOf {S = S} form rows admitted name value instruction =
    MatchOption (row_of common_rows name) ((s : S) × IsSettingOf form rows name value s × (instruction ≡ setting s))
    (λ common. IsCommonOf admitted common value instruction)

-- A term is a name and a value, around its first `=`.
pub record IsInstructionOf {S : Type 0} (form : Form) (v : Vocabulary S) (admitted : Admitted) (term : List ℕ)
    (instruction : Instruction S)
    : Type 0 where
  pub name : List ℕ
  pub value : List ℕ
  pub around : AreAround 61 term name value
  pub value_is : IsValueOf form v.rows admitted name value instruction

-- what is meant by what was read
abbrev pub instruction_of : {S : Type 0} → CallTerm S → Instruction S
instruction_of (term.Setting s) = setting s
instruction_of (term.Now time) = now time
instruction_of (term.Attribute key value) = attribute key.now value.now
instruction_of (term.RequiredKey key) = required_key key.now

-- what was read of a term is what it means, and nothing was read where it means nothing
abbrev pub IsRead : {S : Type 0} → (Instruction S → Type 0) → Result (CallTerm S) TermError → Type 0
IsRead IsSuch read = Reads IsSuch (result_map_both instruction_of (λ e. e) read)

-- ---- one term after the other

-- what a call has beside its place and its name
pub record Arguments (S : Type 0) : Type 0 where
  pub settings : List S
  pub requirements : Requirements
  pub now : Result Span ClockFault

-- no settings, no requirements, and the time zero
abbrev pub no_arguments : {S : Type 0} → Arguments S
no_arguments = record { settings = []; requirements = no_requirements; now = Ok zero_span }

-- nothing but the requirements has changed
abbrev pub Requires : {S : Type 0} → Arguments S → Requirements → Arguments S → Type 0
Requires old requirements new =
    new ≡ record { settings = old.settings; requirements = requirements; now = old.now }

-- the texts of a pair, by its leaves
pub record PairTexts (form : Form) (key value : List ℕ) : Type 0 where
  pub key_text : List ℕ
  pub value_text : List ℕ
  pub key_is : IsLeaf form key key_text
  pub value_is : IsLeaf form value value_text

-- the text of a leaf
abbrev pub LeafText : Form → (leaf : List ℕ) → Type 0
LeafText form leaf = (text : List ℕ) × IsLeaf form leaf text

-- What an instruction changes. A pair or a key that is refused is no step, and neither is one of a broken leaf.
abbrev pub Follows : {S : Type 0} → Form → Arguments S → Instruction S → Arguments S → Type 0
Follows form old (setting s) new =
    new ≡ record { settings = old.settings ++ s ∷ []; requirements = old.requirements; now = old.now }
Follows form old (now time) new =
    new ≡ record { settings = old.settings; requirements = old.requirements; now = time }
Follows form old (attribute key value) new =
    ((p : PairTexts form key value)
    × AddsPair old.requirements.pairs (pair_of p.key_text p.value_text) (Ok tt) new.requirements.pairs)
    × Requires old (record { pairs = new.requirements.pairs; keys = old.requirements.keys }) new
Follows form old (required_key key) new =
    ((t : LeafText form key) × AddsKey old.requirements.keys t.0 (Ok tt) new.requirements.keys)
    × Requires old (record { pairs = old.requirements.pairs; keys = new.requirements.keys }) new

-- The term means an instruction, which is followed.
abbrev pub TakesTerm : {S : Type 0} → Form → Vocabulary S → Admitted
    → Arguments S → List ℕ → Arguments S → Type 0
TakesTerm {S = S} form v admitted old term new =
    (instruction : Instruction S) × IsInstructionOf form v admitted term instruction × Follows form old instruction new

-- what was changed where it is, as an answer that has it
abbrev pub in_place : {A E : Type 0} → Result Unit E → A → Result A E
in_place (Ok done) new = Ok new
in_place (Err e) new = Err e

-- the terms, one after the other
abbrev pub TakesTerms : {S : Type 0} → Form → Vocabulary S → Admitted
    → Arguments S → List (List ℕ) → Arguments S → Type 0
TakesTerms form v admitted = Run (TakesTerm form v admitted)
