-- A turn: a line is read, and its answer is written.
use Rattle.std.proofs.Common.{◌≡◌, ℕ, Bool, true, false, List, [], ◌++◌, Option, Some, None, Result, Ok, Err, refl, sym, ap, subst, ◌∙◌}
use Rattle.std.specs.Prelude.{IsErrAnd}
use Rattle.std.specs.Io.KnownBytes.{Appends}
use Rattle.std.proofs.KnownBytes.{Appends-nil}
use Rattle.negotiate_serve.specs.declared.ending.Ending.{Ending}
use Rattle.negotiate_serve.specs.declared.ending.Ending.TheVariants as ending
use Rattle.negotiate_serve.specs.declared.ending.ServeError.{ServeError}
use Rattle.negotiate_serve.specs.declared.ending.ServeError.TheVariants as failure
use Rattle.negotiate_serve.specs.Endings.{IsOfReading, IsOfWriting}
use Rattle.negotiate_serve.specs.Inputs.{ReadsLine}
use Rattle.negotiate_serve.specs.Outputs.{Writes}
use Rattle.negotiate_serve.specs.Transcripts.{AnsweringLines, ComesNext, answer, no_command, IsCut, IsAtNoCommand}
use Rattle.negotiate_serve.specs.Served.{EndsBeforeReport, GrowsByLine, TakesTurn}

-- what was read and written, by what the tests found
pub as_read : (rest bytes line : List ℕ) (left : Option (List ℕ)) (found is : Bool) → ReadsLine rest found bytes left → found ≡ is → line ≡ bytes → ReadsLine rest is line left
as_read rest bytes line left found is read test same = subst (λ (l : List ℕ). ReadsLine rest is l left) (sym same) (subst (λ (b : Bool). ReadsLine rest b bytes left) test read)

pub as_written : (bytes text : List ℕ) (r : Result (Unit {0}) ServeError) (old new : Option (List ℕ)) → Writes bytes r old new → bytes ≡ text → Writes text r old new
as_written bytes text r old new adds same = subst (λ (l : List ℕ). Writes l r old new) same adds

-- a failure that is passed on
pub as_failure : {T : Type 0} (r : Result T ServeError) (f : ServeError) → IsErrAnd r (λ e. e ≡ f) → r ≡ Err f
as_failure (Ok x) f is = absurd is
as_failure (Err e) f is = ap Err is

module _ {M : Type 0} (Answers : AnsweringLines M) (m n : M) (k : ℕ) where
  pub as_added : (line before text : List ℕ) (goes_on is : Bool) → GrowsByLine Answers goes_on m k line before text n → goes_on ≡ is → GrowsByLine Answers is m k line before text n
  as_added line before text goes_on is adds test = subst (λ (b : Bool). GrowsByLine Answers b m k line before text n) test adds

  module _ (rest : List ℕ) (left : Option (List ℕ)) where
    pub turn_at_end : (line : List ℕ) (old : Option (List ℕ)) → ReadsLine rest false line left
        → TakesTurn Answers (Ok (Some ending.InputEnded)) m k rest left n old old
    turn_at_end line old read =
        record { output = []; answers = record { unread = []; ends = (read.0, refl, refl); left_is = read.1 }; written = Appends-nil old }

    pub turn_without_memory : (old : Option (List ℕ)) → TakesTurn Answers (Err failure.OutOfMemory) m k rest left n old old
    turn_without_memory old = record { output = []; answers = record { unread = []; ends = refl; left_is = tt }; written = Appends-nil old }

    pub turn_without_line : (f : ServeError) (old : Option (List ℕ)) → IsOfReading f → TakesTurn Answers (Err f) m k rest left n old old
    turn_without_line failure.Reading old is = record { output = []; answers = record { unread = []; ends = refl; left_is = tt }; written = Appends-nil old }
    turn_without_line failure.OutOfMemory old is = turn_without_memory old
    turn_without_line failure.Writing old is = absurd is
    turn_without_line failure.TooManyLines old is = absurd is
    turn_without_line failure.TooManyTries old is = absurd is

    -- a failure of writing cuts what comes next
    ends_cut : (f : ServeError) (last : List ℕ) → IsOfWriting f → IsCut Answers m k rest last → EndsBeforeReport Answers (Err f) m k rest last []
    ends_cut failure.Writing last is cut = cut
    ends_cut failure.TooManyTries last is cut = cut
    ends_cut failure.Reading last is cut = absurd is
    ends_cut failure.TooManyLines last is cut = absurd is
    ends_cut failure.OutOfMemory last is cut = absurd is

    module _ (line before text : List ℕ) (none : before ≡ []) (read : ReadsLine rest true line left) where
      -- the text is what is written of the line
      text_is : (output : List ℕ) → text ≡ before ++ output → output ≡ text
      text_is output grown = ap (λ l. l ++ output) (sym none) ∙ sym grown

      pub turn_answered : (old new : Option (List ℕ)) → GrowsByLine Answers true m k line before text n → Writes text (Ok tt) old new
          → TakesTurn Answers (Ok None) m k rest left n old new
      turn_answered old new adds written = record {
        output = adds.output;
        answers = record {
          bytes = line;
          behind = read.0;
          begins = read.1;
          answered = adds.is_answer;
          left_is = read.2;
        };
        written = subst (Appends old new) (sym (text_is adds.output adds.grown)) written;
      }

      -- it ends with this line
      abbrev pub EndsAtLine : Ending → Type 0
      EndsAtLine ending.InputEnded = ⊥
      EndsAtLine (ending.NotACommand number taken) = (number ≡ k) × (line ≡ taken.items)

      pub turn_without_command : (e : Ending) (old new : Option (List ℕ)) → EndsAtLine e → GrowsByLine Answers false m k line before text n
          → Writes text (Ok tt) old new → TakesTurn Answers (Ok (Some e)) m k rest left n old new
      turn_without_command ending.InputEnded old new at adds written = absurd at
      turn_without_command (ending.NotACommand number taken) old new at adds written = record {
        output = adds.output;
        answers = record {
          unread = read.0;
          ends = (at.0, subst (λ (bytes : List ℕ). IsAtNoCommand k bytes rest adds.output read.0) at.1 (record { stands = read.1; no_command = adds.is_answer.0; output = adds.is_answer.1 }));
          left_is = read.2;
        };
        written = subst (Appends old new) (sym (text_is adds.output adds.grown)) written;
      }

      -- what comes next is the text
      comes_next : (goes_on : Bool) → GrowsByLine Answers goes_on m k line before text n → ComesNext Answers m k rest text
      comes_next true adds = answer read.1 (subst (λ t. Answers m line t n) (text_is adds.output adds.grown) adds.is_answer)
      comes_next false adds = subst (ComesNext Answers m k rest) (sym adds.is_answer.1 ∙ text_is adds.output adds.grown) (no_command read.1 adds.is_answer.0)

      pub turn_cut : (goes_on : Bool) (f : ServeError) (old new : Option (List ℕ)) → GrowsByLine Answers goes_on m k line before text n → Writes text (Err f) old new
          → TakesTurn Answers (Err f) m k rest left n old new
      turn_cut goes_on f old new adds written = record {
        output = written.1;
        answers = record { unread = []; ends = ends_cut f written.1 written.0 (text, comes_next goes_on adds, written.2); left_is = tt };
        written = written.3;
      }
