-- What is written by one that answers is what is written by another one that it goes along with.
use Rattle.std.proofs.Common.{ℕ, List, [], codes, Result, Ok, Err}
use Rattle.iceoryx2_builder.specs.declared.command.Command.{Command}
use Rattle.iceoryx2_session.specs.CommandLists.{CarriesOut, none, first}
use Rattle.negotiate_serve.specs.declared.ending.Ending.{Ending}
use Rattle.negotiate_serve.specs.declared.ending.Ending.TheVariants as ending
use Rattle.negotiate_serve.specs.declared.ending.WrongLines.{WrongLines}
use Rattle.negotiate_serve.specs.declared.ending.WrongLines.TheVariants as wrong_lines
use Rattle.negotiate_serve.specs.declared.ending.ServeError.{ServeError}
use Rattle.negotiate_serve.specs.declared.ending.ServeError.TheVariants as failure
use Rattle.negotiate_serve.specs.Transcripts.{Answering, AnsweringLines, AnswersLineBy, LinesBy, AnswersEachBy, as_command, refused, blank, answered, ComesNext, answer, no_command, no_memory, EndsWith, IsTranscriptBy, IsTranscriptOf}

module _ {A M : Type 0} (By : AnsweringLines A) (Of : AnsweringLines M) (Shows : A → M → Type 0)
    (along : (a b : A) (line text : List ℕ) (m : M) → By a line text b → Shows a m → (n : M) × Of m line text n × Shows b n) where
  lines_along : {a b : A} {lines texts : List (List ℕ)} → CarriesOut By a lines texts b → (m : M) → Shows a m
      → (n : M) × CarriesOut Of m lines texts n × Shows b n
  lines_along none m shows = (m, none, shows)
  lines_along (first {old} {mid} {c} {a} one others) m shows =
      let next = along old mid c a m one shows in
      let last = lines_along others next.0 next.2 in
      (last.0, first next.1 last.1, last.2)

  next_along : (a : A) (m : M) (k : ℕ) (rest next : List ℕ) → ComesNext By a k rest next → Shows a m → ComesNext Of m k rest next
  next_along a m k rest next (answer {bytes = bytes} {n = b} begins by) shows = answer begins (along a b bytes next m by shows).1
  next_along a m k rest next (no_command begins is) shows = no_command begins is
  next_along a m k rest next no_memory shows = no_memory

  ends_along : (ended : Result Ending ServeError) (a : A) (m : M) (k : ℕ) (rest last unread : List ℕ) → EndsWith By ended a k rest last unread → Shows a m
      → EndsWith Of ended m k rest last unread
  ends_along (Ok ending.InputEnded) a m k rest last unread ends shows = ends
  ends_along (Ok (ending.NotACommand number line)) a m k rest last unread ends shows = ends
  ends_along (Err failure.Reading) a m k rest last unread ends shows = ends
  ends_along (Err failure.TooManyLines) a m k rest last unread ends shows = ends
  ends_along (Err failure.OutOfMemory) a m k rest last unread ends shows = ends
  ends_along (Err failure.Writing) a m k rest last unread ends shows = (ends.0, next_along a m k rest ends.0 ends.1 shows, ends.2)
  ends_along (Err failure.TooManyTries) a m k rest last unread ends shows = (ends.0, next_along a m k rest ends.0 ends.1 shows, ends.2)

  pub lines_transcript_along : (a : A) (m : M) (input : List ℕ) (ended : Result Ending ServeError) (output unread : List ℕ) → IsTranscriptOf By a input ended output unread → Shows a m
      → IsTranscriptOf Of m input ended output unread
  lines_transcript_along a m input ended output unread t shows =
      let last = lines_along t.answered m shows in
      record {
        lines = t.lines;
        rest = t.rest;
        begins = t.begins;
        texts = t.texts;
        machine = last.0;
        answered = last.1;
        last = t.last;
        ends = ends_along ended t.machine last.0 _ t.rest t.last unread t.ends last.2;
        are = t.are;
      }

module _ {A M : Type 0} (By : Answering A) (Of : Answering M) (Shows : A → M → Type 0)
    (along : (a b : A) (line : List ℕ) (c : Command) (text : List ℕ) (m : M) → By a line c text b → Shows a m → (n : M) × Of m line c text n × Shows b n) where
  pub line_along : (a b : A) (bytes text : List ℕ) (m : M) → AnswersLineBy By a bytes text b → Shows a m → (n : M) × AnswersLineBy Of m bytes text n × Shows b n
  line_along a b bytes text m (blank is) shows = (m, blank is, shows)
  line_along a b bytes text m (answered {c = c} is by) shows = let next = along a b bytes c text m by shows in (next.0, answered is next.1, next.2)

  each_along : (end : List ℕ) (a b : A) (bytes text : List ℕ) (m : M) → AnswersEachBy end By a bytes text b → Shows a m
      → (n : M) × AnswersEachBy end Of m bytes text n × Shows b n
  each_along end a b bytes text m (as_command by) shows = let next = line_along a b bytes text m by shows in (next.0, as_command next.1, next.2)
  each_along end a b bytes text m (refused is) shows = (m, refused is, shows)

  pub lines_by_along : (w : WrongLines) (a b : A) (bytes text : List ℕ) (m : M) → LinesBy w By a bytes text b → Shows a m → (n : M) × LinesBy w Of m bytes text n × Shows b n
  lines_by_along wrong_lines.End a b bytes text m by shows = line_along a b bytes text m by shows
  lines_by_along wrong_lines.Reply a b bytes text m by shows = each_along [] a b bytes text m by shows
  lines_by_along wrong_lines.ReplyAndEmptyLine a b bytes text m by shows = each_along (codes "\n") a b bytes text m by shows

  pub transcript_along : (a : A) (m : M) (input : List ℕ) (ended : Result Ending ServeError) (output unread : List ℕ) → IsTranscriptBy By a input ended output unread → Shows a m
      → IsTranscriptBy Of m input ended output unread
  transcript_along a m input ended output unread t shows = lines_transcript_along (AnswersLineBy By) (AnswersLineBy Of) Shows line_along a m input ended output unread t shows
