-- Lines are answered until the log ends it.
use Rattle.std.proofs.Common.{◌≡◌, ℕ, List, [], Option, Some, None, Result, Ok, Err, refl, sym, ap, subst}
use Rattle.std.specs.Prelude.{IsErrAnd}
use Rattle.std.proofs.KnownBytes.{Appends-nil}
use Rattle.negotiate_serve.specs.declared.ending.Ending.{Ending}
use Rattle.negotiate_serve.specs.declared.ending.ServeError.{ServeError}
use Rattle.negotiate_serve.specs.declared.ending.ServeError.TheVariants as failure
use Rattle.negotiate_serve.specs.declared.ending.Ending.TheVariants as ending
use Rattle.negotiate_serve.specs.Transcripts.{AnsweringLines, ComesNext, answer, no_command, no_memory}
use Rattle.negotiate_serve.specs.Served.{AnswersAll, EndsBeforeReport, ServesLines, TakesTurn}
use Rattle.negotiate_serve.proofs.Answering.{SoFar, turn_fails}
use Rattle.wulameron_place.specs.declared.halt.Halt.{Halt}
use Rattle.wulameron_place.specs.declared.halt.Halt.TheVariants as halt
use Rattle.wulameron_place.specs.declared.trouble.Trouble.{Trouble}
use Rattle.wulameron_serve.specs.Lines.{seen_as, IsEndOf}

-- a fault that is passed on
pub seen_failure : (r : Result Ending Halt) (f : ServeError) → IsErrAnd r (λ e. e ≡ halt.Serving f) → seen_as r ≡ Err f
seen_failure (Ok x) f is = absurd is
seen_failure (Err e) f is = ap (λ (h : Halt). seen_as (Err h)) is

-- and it isn't the log's
pub serving_is_no_end : (found : Option Trouble) (r : Result Ending Halt) (f : ServeError) → IsErrAnd r (λ e. e ≡ halt.Serving f) → IsEndOf found r
serving_is_no_end found (Ok x) f is = absurd is
serving_is_no_end found (Err e) f is = subst (λ (h : Halt). IsEndOf found (Err h)) (sym is) tt

-- ---- what is written by one that answers is also written by another one

module _ {M : Type 0} (By Of : AnsweringLines M) (m : M) (also : (line text : List ℕ) (n : M) → By m line text n → Of m line text n) where
  next_also : (k : ℕ) (rest next : List ℕ) → ComesNext By m k rest next → ComesNext Of m k rest next
  next_also k rest next (answer {bytes = bytes} {n = n} begins by) = answer begins (also bytes next n by)
  next_also k rest next (no_command begins is) = no_command begins is
  next_also k rest next no_memory = no_memory

  ends_also : (ended : Result Ending ServeError) (k : ℕ) (rest last unread : List ℕ) → EndsBeforeReport By ended m k rest last unread → EndsBeforeReport Of ended m k rest last unread
  ends_also (Ok ending.InputEnded) k rest last unread ends = ends
  ends_also (Ok (ending.NotACommand number line)) k rest last unread ends = ends
  ends_also (Err failure.Reading) k rest last unread ends = ends
  ends_also (Err failure.TooManyLines) k rest last unread ends = ends
  ends_also (Err failure.OutOfMemory) k rest last unread ends = ends
  ends_also (Err failure.Writing) k rest last unread ends = (ends.0, next_also k rest ends.0 ends.1, ends.2)
  ends_also (Err failure.TooManyTries) k rest last unread ends = (ends.0, next_also k rest ends.0 ends.1, ends.2)

  pub turn_also : (r : Result (Option Ending) ServeError) (k : ℕ) (rest : List ℕ) (left : Option (List ℕ)) (n : M) (old new : Option (List ℕ))
      → TakesTurn By r m k rest left n old new → TakesTurn Of r m k rest left n old new
  turn_also (Ok None) k rest left n old new t = record {
    output = t.output;
    answers = record {
      bytes = t.answers.bytes;
      behind = t.answers.behind;
      begins = t.answers.begins;
      answered = also t.answers.bytes t.output n t.answers.answered;
      left_is = t.answers.left_is;
    };
    written = t.written;
  }
  turn_also (Ok (Some e)) k rest left n old new t = record {
    output = t.output;
    answers = record { unread = t.answers.unread; ends = ends_also (Ok e) k rest t.output t.answers.unread t.answers.ends; left_is = t.answers.left_is };
    written = t.written;
  }
  turn_also (Err f) k rest left n old new t = record {
    output = t.output;
    answers = record { unread = t.answers.unread; ends = ends_also (Err f) k rest t.output t.answers.unread t.answers.ends; left_is = t.answers.left_is };
    written = t.written;
  }

-- ---- the log ends it

module _ {M : Type 0} (Answers : AnsweringLines M) (first : M) (input : List ℕ) where
  -- The log ends it after some lines: nothing more is written.
  pub log_ends : (k : ℕ) (left old new : Option (List ℕ)) (m : M) → SoFar Answers first input k left old new m → AnswersAll Answers first (Err failure.Reading) input left old new
  log_ends k left old new m a = turn_fails Answers first input k left left old new new m m a failure.Reading
      (record { output = []; answers = record { unread = []; ends = refl; left_is = tt }; written = Appends-nil new })

  -- and what was written is a transcript that ends so
  pub served_to_halt : (left old new : Option (List ℕ)) → AnswersAll Answers first (Err failure.Reading) input left old new
      → (unread : List ℕ) × ServesLines Answers first (Err failure.Reading) input unread old new
  served_to_halt left old new a = (a.unread, record { output = a.output; transcript = a.answered; written = a.written })
