-- What is wrong with a line: the first thing, from left to right.
use Rattle.std.specs.Prelude.{ℕ, ◌≡◌, ◌≢◌, ◌≤◌, ◌++◌, ◌⊎◌, true, false, List, [], ◌∷◌, length, None, Some}
use Rattle.std.specs.Prelude.{Result, Ok, Err, codes}
use Rattle.std.specs.Borrow.{Bor}
use Rattle.std.specs.Str.{IsUtf8}
use Rattle.iceoryx2_access.specs.Run.{Each}
use Rattle.iceoryx2_attribute.specs.Additions.{Answer, HasKeyLength, HasValueLength}
use Rattle.iceoryx2_attribute.specs.declared.attribute.AttributeError.TheVariants as attribute_error
use Rattle.iceoryx2_attribute.specs.Attributes.{has_pair, pair_of}
use Rattle.iceoryx2_attribute.specs.Requirements.{lists_key}
use Rattle.iceoryx2_attribute.specs.declared.attribute.TheConstants.{MAX_ATTRIBUTES, MAX_REQUIRED_KEYS}
use Rattle.iceoryx2_description.specs.Names.{IsName}
use Rattle.iceoryx2_description.specs.Span.{Span}
use Rattle.iceoryx2_description.specs.declared.time.ClockFault.{ClockFault}
use Rattle.iceoryx2_builder.specs.declared.command.How.{How}
use Rattle.iceoryx2_builder.specs.declared.command.How.TheVariants as how
use Rattle.iceoryx2_builder.specs.Commands.{slot_count}
use Rattle.negotiate_lines.specs.declared.leaf.Form.{Form}
use Rattle.negotiate_lines.specs.declared.vocabulary.Admitted.{Admitted}
use Rattle.negotiate_lines.specs.declared.vocabulary.Kind.{Kind}
use Rattle.negotiate_lines.specs.declared.line_error.LineFailure.{LineFailure}
use Rattle.negotiate_lines.specs.declared.line_error.LineFailure.TheVariants as failure
use Rattle.negotiate_lines.specs.declared.line_error.LineError.{LineError}
use Rattle.negotiate_lines.specs.declared.line_error.LineError.TheVariants as wrong
use Rattle.negotiate_lines.specs.SettingTerms.{event_vocabulary, publish_subscribe_vocabulary}
use Rattle.negotiate_lines.specs.SettingTerms.{request_response_vocabulary}
use Rattle.negotiate_lines.specs.Terms.{AreAround, IsNumber, terms_of}
use Rattle.negotiate_lines.specs.Values.{IsClockTerm, IsNatural}
use Rattle.negotiate_lines.specs.Vocabulary.{Vocabulary, Takes, Sets, kind_of, kinds_of, row_of, common_rows, table_of}
use Rattle.negotiate_lines.specs.CallTerms.{Arguments, Instruction, attribute, required_key, IsInstructionOf}
use Rattle.negotiate_lines.specs.CallTerms.{TakesTerms, no_arguments, PairTexts, LeafText}
use Rattle.negotiate_lines.specs.Commands.{admitted_of, how_term}

-- ---- a term behind the name

-- The setting of this name takes values of this kind, and this is none that it takes.
pub record IsNoValue {S : Type 0} (form : Form) (v : Vocabulary S) (name value : List ℕ) (kind : Kind) : Type 0 where
  pub takes : Takes S
  pub row : row_of v.rows name ≡ Some takes
  pub kind_is : kind ≡ kind_of takes
  pub none : (s : S) → Sets form takes value s → ⊥

-- No setting of the pattern has this name, and no term that every pattern has. These could stand there.
pub record IsNoSetting {S : Type 0} (v : Vocabulary S) (h : How) (name pattern : List ℕ)
    (settings : List (Bor (List ℕ) × Kind)) (admitted : Admitted)
    : Type 0 where
  pub common : row_of common_rows name ≡ None
  pub row : row_of v.rows name ≡ None
  pub pattern_is : pattern ≡ v.pattern
  pub settings_are : table_of settings ≡ kinds_of v.rows
  pub admitted_are : admitted ≡ admitted_of v.has_clock h

-- what is wrong with a value behind a name
abbrev pub WrongValue : {S : Type 0} → Form → Vocabulary S → How → (name value : List ℕ) → LineError → Type 0
WrongValue form v h name value (wrong.NoColon t) =
    (name ≡ codes "attribute") × (t.now ≡ value) × ((front back : List ℕ) → AreAround 58 value front back → ⊥)
WrongValue form v h name value wrong.KeyWithCreate = (name ≡ codes "require_key") × (h ≡ how.Create)
WrongValue form v h name value (wrong.NoTime t) =
    (name ≡ codes "now") × (t.now ≡ value) × ((time : Result Span ClockFault) → IsClockTerm value time → ⊥)
WrongValue form v h name value wrong.NowWithOpen = (name ≡ codes "now") × (h ≡ how.Open) × (v.has_clock ≡ true)
WrongValue form v h name value (wrong.NowOfPattern t) =
    (name ≡ codes "now") × (v.has_clock ≡ false) × (t.now ≡ v.pattern)
WrongValue form v h name value (wrong.Value n t kind) =
    (n.now ≡ name) × (t.now ≡ value) × IsNoValue form v name value kind
WrongValue form v h name value (wrong.NoSuchSetting n pattern settings admitted) =
    (n.now ≡ name) × IsNoSetting v h name pattern.now settings.now admitted
WrongValue form v h name value _ = ⊥

-- What is wrong with an instruction that can't be followed. That a leaf is broken comes before its length.
abbrev pub WrongStep : {S : Type 0} → Form → Arguments S → Instruction S → LineError → Type 0
WrongStep form old (attribute key value) (wrong.BrokenLeaf t) =
    ((t.now ≡ key) × (LeafText form key → ⊥)) ⊎ ((t.now ≡ value) × LeafText form key × (LeafText form value → ⊥))
WrongStep form old (attribute key value) (wrong.KeyLength t) =
    (t.now ≡ key) × ((p : PairTexts form key value) × (HasKeyLength p.key_text → ⊥))
WrongStep form old (attribute key value) (wrong.ValueLength t) =
    (t.now ≡ value) × ((p : PairTexts form key value) × HasKeyLength p.key_text × (HasValueLength p.value_text → ⊥))
WrongStep form old (attribute key value) (wrong.TooManyPairs t u) = (t.now ≡ key) × (u.now ≡ value)
    × ((p : PairTexts form key value)
    × (has_pair old.requirements.pairs (pair_of p.key_text p.value_text) ≡ false)
    × (MAX_ATTRIBUTES ≤ length old.requirements.pairs))
WrongStep form old (required_key key) (wrong.BrokenLeaf t) = (t.now ≡ key) × (LeafText form key → ⊥)
WrongStep form old (required_key key) (wrong.KeyLength t) =
    (t.now ≡ key) × ((text : LeafText form key) × (HasKeyLength text.0 → ⊥))
WrongStep form old (required_key key) (wrong.TooManyKeys t) = (t.now ≡ key)
    × ((text : LeafText form key) × (lists_key old.requirements.keys text.0 ≡ false)
    × (MAX_REQUIRED_KEYS ≤ length old.requirements.keys))
WrongStep form old instruction _ = ⊥

-- What is wrong with a term that means nothing: it has no `=`, or its value is wrong behind its name.
pub data WrongText {S : Type 0} (form : Form) (v : Vocabulary S) (h : How) (term : List ℕ) : LineError → Type 0 where
  no_equals_sign : {t : Bor (List ℕ)} → t.now ≡ term → ((front back : List ℕ) → AreAround 61 term front back → ⊥)
      → WrongText form v h term (wrong.NoEqualsSign t)
  wrong_value : {w : LineError} (name value : List ℕ) → AreAround 61 term name value → WrongValue form v h name value w
      → WrongText form v h term w

-- What is wrong with a term: it means nothing, or what it means can't be followed.
pub data WrongTerm {S : Type 0} (form : Form) (v : Vocabulary S) (h : How) (old : Arguments S) (term : List ℕ)
    (w : LineError) : Type 0 where
  no_instruction : ((instruction : Instruction S) → IsInstructionOf form v (admitted_of v.has_clock h) term instruction
      → ⊥) → WrongText form v h term w
      → WrongTerm form v h old term w
  refused : (instruction : Instruction S) → IsInstructionOf form v (admitted_of v.has_clock h) term instruction
      → WrongStep form old instruction w → WrongTerm form v h old term w

-- The terms before it are taken, and it is the first that is wrong.
pub record WrongArguments {S : Type 0} (form : Form) (v : Vocabulary S) (h : How) (terms : List (List ℕ))
    (w : LineError) : Type 0 where
  pub front : List (List ℕ)
  pub term : List ℕ
  pub behind : List (List ℕ)
  pub are : terms ≡ front ++ term ∷ behind
  pub mid : Arguments S
  pub taken : TakesTerms form v (admitted_of v.has_clock h) no_arguments front mid
  pub is_wrong : WrongTerm form v h mid term w

-- ---- a call

-- what is wrong with the first of these terms: there is none, or it is no call
abbrev pub WrongHow : List (List ℕ) → LineError → Type 0
WrongHow terms wrong.NoCall = terms ≡ []
WrongHow terms (wrong.NoSuchCall t) =
    (rest : List (List ℕ)) × (terms ≡ t.now ∷ rest) × ((h : How) → t.now ≡ how_term h → ⊥)
WrongHow terms _ = ⊥

-- or it is no number of a node
abbrev pub WrongNode : List (List ℕ) → LineError → Type 0
WrongNode terms wrong.NoNode = terms ≡ []
WrongNode terms (wrong.NoNodeNumber t) =
    (rest : List (List ℕ)) × (terms ≡ t.now ∷ rest) × ((n : ℕ) → IsNatural t.now n → ⊥)
WrongNode terms _ = ⊥

-- or it is no number, or one past the last slot
abbrev pub WrongSlot : List (List ℕ) → LineError → Type 0
WrongSlot terms wrong.NoSlot = terms ≡ []
WrongSlot terms (wrong.NoSlotNumber t) =
    (rest : List (List ℕ)) × (terms ≡ t.now ∷ rest) × ((n : ℕ) → IsNatural t.now n → ⊥)
WrongSlot terms (wrong.SlotTooGreat t) =
    (rest : List (List ℕ)) × (terms ≡ t.now ∷ rest) × ((n : ℕ) × IsNatural t.now n × (slot_count ≤ n))
WrongSlot terms _ = ⊥

-- or it is no leaf of a name, or of no name
abbrev pub WrongName : Form → List (List ℕ) → LineError → Type 0
WrongName form terms wrong.NoName = terms ≡ []
WrongName form terms (wrong.BrokenLeaf t) =
    (rest : List (List ℕ)) × (terms ≡ t.now ∷ rest) × (LeafText form t.now → ⊥)
WrongName form terms (wrong.NameLength t) =
    (rest : List (List ℕ)) × (terms ≡ t.now ∷ rest) × ((text : LeafText form t.now) × (IsName text.0 → ⊥))
WrongName form terms _ = ⊥

-- what is wrong with the terms behind a pattern, where those before it are right
pub data WrongCall {S : Type 0} (form : Form) (v : Vocabulary S) (terms : List (List ℕ)) (w : LineError) : Type 0 where
  at_call : WrongHow terms w → WrongCall form v terms w
  at_node : (h : How) (rest : List (List ℕ)) → terms ≡ how_term h ∷ rest → WrongNode rest w → WrongCall form v terms w
  at_slot : (h : How) (node : List ℕ) (rest : List (List ℕ)) → terms ≡ how_term h ∷ node ∷ rest
      → ((n : ℕ) × IsNatural node n) → WrongSlot rest w → WrongCall form v terms w
  at_name : (h : How) (node slot : List ℕ) (rest : List (List ℕ)) → terms ≡ how_term h ∷ node ∷ slot ∷ rest
      → ((n : ℕ) × IsNatural node n) → ((n : ℕ) × IsNumber slot_count slot n) → WrongName form rest w
      → WrongCall form v terms w
  at_term : (h : How) (node slot name : List ℕ) (rest : List (List ℕ))
      → terms ≡ how_term h ∷ node ∷ slot ∷ name ∷ rest → ((n : ℕ) × IsNatural node n)
      → ((n : ℕ) × IsNumber slot_count slot n) → ((text : LeafText form name) × IsName text.0)
      → WrongArguments form v h rest w → WrongCall form v terms w

-- ---- a line

abbrev pub command_words : List (List ℕ)
command_words = codes "list" ∷ codes "close" ∷ codes "event" ∷ codes "pubsub" ∷ codes "rr" ∷ []

-- what is wrong with the terms of a line
pub data WrongTerms (form : Form) (terms : List (List ℕ)) : LineError → Type 0 where
  no_command : {t : Bor (List ℕ)} (rest : List (List ℕ)) → terms ≡ t.now ∷ rest
      → Each (λ word. t.now ≢ word) command_words → WrongTerms form terms (wrong.NoSuchCommand t)
  behind_list : {t : Bor (List ℕ)} (rest : List (List ℕ)) → terms ≡ codes "list" ∷ t.now ∷ rest
      → WrongTerms form terms (wrong.BehindList t)
  at_slot : {w : LineError} (rest : List (List ℕ)) → terms ≡ codes "close" ∷ rest → WrongSlot rest w
      → WrongTerms form terms w
  behind_slot : {t : Bor (List ℕ)} (slot : List ℕ) (rest : List (List ℕ))
      → terms ≡ codes "close" ∷ slot ∷ t.now ∷ rest → ((n : ℕ) × IsNumber slot_count slot n)
      → WrongTerms form terms (wrong.BehindSlot t)
  event : {w : LineError} (rest : List (List ℕ)) → terms ≡ codes "event" ∷ rest → WrongCall form event_vocabulary rest w
      → WrongTerms form terms w
  publish_subscribe : {w : LineError} (rest : List (List ℕ)) → terms ≡ codes "pubsub" ∷ rest
      → WrongCall form publish_subscribe_vocabulary rest w → WrongTerms form terms w
  request_response : {w : LineError} (rest : List (List ℕ)) → terms ≡ codes "rr" ∷ rest
      → WrongCall form request_response_vocabulary rest w → WrongTerms form terms w

-- What is wrong with a line: it is no text, or something is wrong with its terms.
pub data IsWrong (form : Form) (bytes : List ℕ) : LineError → Type 0 where
  not_utf8 : (IsUtf8 bytes → ⊥) → IsWrong form bytes wrong.NotUtf8
  in_terms : {w : LineError} → IsUtf8 bytes → WrongTerms form (terms_of bytes) w → IsWrong form bytes w

-- ---- what is found

-- What is found is such. Else nothing is such, and this is what is wrong. Memory may run out.
abbrev pub Judges : {A : Type 0} → (A → Type 0) → (LineError → Type 0) → Result A LineFailure → Type 0
Judges IsSuch Wrongs (Ok a) = IsSuch a
Judges {A = A} IsSuch Wrongs (Err (failure.Wrong w)) = ((a : A) → IsSuch a → ⊥) × Wrongs w
Judges IsSuch Wrongs (Err failure.OutOfMemory) = Unit {0}

-- Terms begin with one that means this, and these stand behind it.
abbrev pub Begins : {A : Type 0} → (List ℕ → A → Type 0) → (terms : List (List ℕ)) → A → (rest : List (List ℕ))
    → Type 0
Begins IsFirst terms a rest = (term : List ℕ) × (terms ≡ term ∷ rest) × IsFirst term a

-- What the first term means is found, with the text behind it. Else it means nothing, and this is what is wrong.
abbrev pub JudgesFirst : {A : Type 0} → (List ℕ → A → Type 0) → (List (List ℕ) → LineError → Type 0)
    → (terms : List (List ℕ)) → Result (A × Bor (List ℕ)) LineFailure → Type 0
JudgesFirst IsFirst Wrongs terms (Ok found) = Begins IsFirst terms found.0 (terms_of found.1.now)
JudgesFirst {A = A} IsFirst Wrongs terms (Err (failure.Wrong w)) =
    ((a : A) (rest : List (List ℕ)) → Begins IsFirst terms a rest → ⊥) × Wrongs terms w
JudgesFirst IsFirst Wrongs terms (Err failure.OutOfMemory) = Unit {0}

-- It is told that something is wrong, with this leaf.
abbrev pub TellsOf : (Bor (List ℕ) → LineError) → (leaf : List ℕ) → Result (Unit {0}) LineFailure → Type 0
TellsOf wrong_of leaf told = (t : Bor (List ℕ)) × (t.now ≡ leaf) × (told ≡ Err (failure.Wrong (wrong_of t)))

-- what is told of a pair of these leaves, by what is answered where it is put among others
abbrev pub IsPairAnswer : Answer → (key value : List ℕ) → Result (Unit {0}) LineFailure → Type 0
IsPairAnswer (Ok added) key value told = told ≡ Ok tt
IsPairAnswer (Err attribute_error.OutOfMemory) key value told = told ≡ Err failure.OutOfMemory
IsPairAnswer (Err attribute_error.KeyLength) key value told = TellsOf wrong.KeyLength key told
IsPairAnswer (Err attribute_error.ValueLength) key value told = TellsOf wrong.ValueLength value told
IsPairAnswer (Err attribute_error.TooMany) key value told =
    (u : Bor (List ℕ)) × (u.now ≡ value) × TellsOf (λ t. wrong.TooManyPairs t u) key told

-- the same of a key, which has no value
abbrev pub IsKeyAnswer : Answer → (key : List ℕ) → Result (Unit {0}) LineFailure → Type 0
IsKeyAnswer (Ok added) key told = told ≡ Ok tt
IsKeyAnswer (Err attribute_error.OutOfMemory) key told = told ≡ Err failure.OutOfMemory
IsKeyAnswer (Err attribute_error.TooMany) key told = TellsOf wrong.TooManyKeys key told
IsKeyAnswer (Err attribute_error.KeyLength) key told = TellsOf wrong.KeyLength key told
IsKeyAnswer (Err attribute_error.ValueLength) key told = TellsOf wrong.KeyLength key told

-- It is wrong that this leaf is broken.
abbrev pub IsBroken : (leaf : List ℕ) → LineError → Type 0
IsBroken leaf w = (t : Bor (List ℕ)) × (t.now ≡ leaf) × (w ≡ wrong.BrokenLeaf t)

-- a term is the name of a call
abbrev pub NamesCall : List ℕ → How → Type 0
NamesCall term h = term ≡ how_term h
