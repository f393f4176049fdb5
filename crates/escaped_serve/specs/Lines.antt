-- How the lines of an escaped session are answered.
use Rattle.std.specs.Prelude.{◌≡◌, ℕ, Bool, true, false, List, [], ◌++◌, codes}
use Rattle.negotiate_lines.specs.Escapes.{shown}
use Rattle.negotiate_lines.specs.Leaves.{leaf_of}
use Rattle.negotiate_lines.specs.Lines.{IsLine}
use Rattle.negotiate_lines.specs.Questions.{IsRequest}
use Rattle.negotiate_lines.specs.WrongTexts.{IsWrongText}
use Rattle.negotiate_lines.specs.declared.line.Line.{Line}
use Rattle.negotiate_lines.specs.declared.line.Line.TheVariants as line
use Rattle.negotiate_lines.specs.declared.question.Question.{Question}
use Rattle.negotiate_lines.specs.declared.question.Question.TheVariants as question
use Rattle.negotiate_lines.specs.declared.question.Request.{Request}
use Rattle.negotiate_lines.specs.declared.question.Request.TheVariants as request
use Rattle.negotiate_lines.specs.declared.line_error.LineError.{LineError}
use Rattle.negotiate_lines.specs.declared.line_error.LineError.TheVariants as wrong_with
use Rattle.negotiate_serve.specs.Transcripts.{Answering, AnswersLineBy, IsReplyToWrong}

-- how a question is answered by a text, from a state to the next one
abbrev pub AnsweringQuestions : Type 0 → Type 1
AnsweringQuestions M = M → Question → (text : List ℕ) → M → Type 0

-- it begins with no word of a command
abbrev pub begins_otherwise : Line → Bool
begins_otherwise (line.NotACommand (wrong_with.NoSuchCommand t)) = true
begins_otherwise _ = false

-- what is written of a line that begins with this word of a question, and is none
abbrev pub no_question_reply : (word : List ℕ) → List ℕ
no_question_reply word =
    codes "error: " ++ (shown word ++ codes ": what stands behind it isn't what it takes\n")

-- what is written of a plain line of which this would be written, and of one of which this is wrong
abbrev pub plain_reply : (told : List ℕ) → List ℕ
plain_reply told = codes "plain " ++ (leaf_of told ++ codes "\n")

abbrev pub wrong_reply : (told : List ℕ) → List ℕ
wrong_reply told = codes "wrong " ++ (leaf_of told ++ codes "\n")

module _ {M : Type 0} (Answers : Answering M) where
  -- A whole plain line is answered: by what is written of it, as a leaf, or by what is wrong with it.
  pub data AnswersPlain (m : M) (bytes : List ℕ) : (text : List ℕ) → M → Type 0 where
    answered : {told text : List ℕ} {n : M} → AnswersLineBy Answers m bytes told n → text ≡ plain_reply told
        → AnswersPlain m bytes text n
    wrong : {w : LineError} {told text : List ℕ} → IsLine bytes (line.NotACommand w) → IsWrongText w told
        → text ≡ wrong_reply told → AnswersPlain m bytes text m

  module _ (AnswersEscaped : Answering M) (Asks : AnsweringQuestions M) where
    -- A line that begins with no word of a question is answered: by nothing where it is blank, as the command that it
    -- is, or by what is wrong with it.
    abbrev pub AnswersKnown : M → (bytes : List ℕ) → Line → (text : List ℕ) → M → Type 0
    AnswersKnown m bytes line.Blank text n = (text ≡ []) × (n ≡ m)
    AnswersKnown m bytes (line.Command c) text n = AnswersEscaped m bytes c text n
    AnswersKnown m bytes (line.NotACommand w) text n = IsReplyToWrong [] w text × (n ≡ m)

    -- A question is answered. A whole plain line is carried out.
    abbrev pub AnswersAsked : M → Question → (text : List ℕ) → M → Type 0
    AnswersAsked m (question.Plain bytes) text n = AnswersPlain m bytes.items text n
    AnswersAsked m q text n = Asks m q text n

    -- What a line of these bytes is, is answered.
    abbrev pub AnswersRequest : M → (bytes : List ℕ) → Request → (text : List ℕ) → M → Type 0
    AnswersRequest m bytes (request.Line l) text n = AnswersKnown m bytes l text n
    AnswersRequest m bytes (request.Question q) text n = AnswersAsked m q text n
    AnswersRequest m bytes (request.NotAQuestion word) text n = (text ≡ no_question_reply word.now) × (n ≡ m)

    -- A line of an escaped session is answered as what it is.
    pub record AnswersEscapedLine (m : M) (bytes text : List ℕ) (n : M) : Type 0 where
      pub known : Request
      pub is_request : IsRequest bytes known
      pub is_answer : AnswersRequest m bytes known text n
