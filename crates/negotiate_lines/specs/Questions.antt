-- What a line of an escaped session asks.
use Rattle.std.specs.Prelude.{ℕ, ◌≡◌, ◌^◌, Bool, true, false, List, [], ◌∷◌, Option, Some, None, MatchOption, codes, is_some}
use Rattle.std.specs.Str.{IsUtf8}
use Rattle.std.specs.declared.alloc.Global.{Global}
use Rattle.std.specs.declared.vec.Vec.{Vec}
use Rattle.iceoryx2_builder.specs.Commands.{slot_count}
use Rattle.negotiate_lines.specs.declared.leaf.Form.TheVariants as form
use Rattle.negotiate_lines.specs.declared.question.Question.{Question}
use Rattle.negotiate_lines.specs.declared.question.Question.TheVariants as question
use Rattle.negotiate_lines.specs.declared.question.Request.{Request}
use Rattle.negotiate_lines.specs.declared.question.Request.TheVariants as request
use Rattle.negotiate_lines.specs.Leaves.{bytes_of}
use Rattle.negotiate_lines.specs.Lines.{IsLineIn}
use Rattle.negotiate_lines.specs.Terms.{IsNumber, terms_of}
use Rattle.negotiate_lines.specs.Values.{IsNatural}
use Rattle.negotiate_lines.specs.Vocabulary.{row_of}

-- What stands behind the word of a question, and which question is made of it: a slot, nothing, the number of a node or
-- nothing, any number, or a leaf that stands for a line.
pub data QuestionTakes : Type 0 where
  slot : (ℕ → Question) → QuestionTakes
  nothing : Question → QuestionTakes
  node_or_none : (Option ℕ → Question) → QuestionTakes
  any_number : (ℕ → Question) → QuestionTakes
  line : QuestionTakes

-- each word with what stands behind it
abbrev pub question_rows : List (List ℕ × QuestionTakes)
question_rows =
    (codes "show", slot question.Show)
    ∷ (codes "bytes", slot question.Bytes)
    ∷ (codes "abandon", slot question.Abandon)
    ∷ (codes "entries", nothing question.Entries)
    ∷ (codes "nodes", nothing question.Nodes)
    ∷ (codes "clean", node_or_none question.Clean)
    ∷ (codes "rehearse", node_or_none question.Rehearse)
    ∷ (codes "refusal", any_number question.Refusal)
    ∷ (codes "plain", line)
    ∷ []

abbrev pub is_question_word : List ℕ → Bool
is_question_word word = is_some (row_of question_rows word)

-- The only one of the terms means this.
abbrev pub IsOnly : {A : Type 0} → (List ℕ → A → Type 0) → (terms : List (List ℕ)) → A → Type 0
IsOnly IsSuch terms a = (term : List ℕ) × (terms ≡ term ∷ []) × IsSuch term a

-- It is a number, or there is no term.
abbrev pub IsOnlyOrNone : (terms : List (List ℕ)) → Option ℕ → Type 0
IsOnlyOrNone terms None = terms ≡ []
IsOnlyOrNone terms (Some n) = IsOnly IsNatural terms n

-- The terms behind the word make the question.
abbrev pub Asks : QuestionTakes → (others : List (List ℕ)) → Question → Type 0
Asks (slot of) others q = (k : ℕ) × IsOnly (IsNumber slot_count) others k × (q ≡ of k)
Asks (nothing it) others q = (others ≡ []) × (q ≡ it)
Asks (node_or_none of) others q = (node : Option ℕ) × IsOnlyOrNone others node × (q ≡ of node)
Asks (any_number of) others q = (n : ℕ) × IsOnly IsNatural others n × (q ≡ of n)
Asks line others q =
    (bytes : Vec ℕ Global) × IsOnly (λ leaf b. bytes_of leaf ≡ Some b) others bytes.items × (q ≡ question.Plain bytes)

-- The terms are the question, by the row of the first of them.
abbrev pub IsQuestionOf : (terms : List (List ℕ)) → Question → Type 0
IsQuestionOf [] q = ⊥
IsQuestionOf (word ∷ others) q = MatchOption (row_of question_rows word) ⊥ (λ takes. Asks takes others q)

-- The first of the terms is a word by which a question begins.
abbrev pub begins_question : (terms : List (List ℕ)) → Bool
begins_question [] = false
begins_question (term ∷ terms) = is_question_word term

-- What is asked by terms that begin with such a word: a question, or it is told by which word they begin.
abbrev pub AsksIn : (terms : List (List ℕ)) → Request → Type 0
AsksIn terms (request.Line l) = ⊥
AsksIn terms (request.Question q) = IsQuestionOf terms q
AsksIn terms (request.NotAQuestion t) =
    ((others : List (List ℕ)) × (terms ≡ t.now ∷ others)) × ((q : Question) → IsQuestionOf terms q → ⊥)

-- What the bytes of a line of an escaped session are: a text that begins with a word of a question, or any other line.
abbrev pub IsRequest : (bytes : List ℕ) → Request → Type 0
IsRequest bytes (request.Line l) =
    (IsUtf8 bytes → begins_question (terms_of bytes) ≡ false) × IsLineIn form.Escaped bytes l
IsRequest bytes r = IsUtf8 bytes × (begins_question (terms_of bytes) ≡ true) × AsksIn (terms_of bytes) r
