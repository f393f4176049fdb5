-- How a program answers lines as long as its log can be used, and how it ends.
use Rattle.std.specs.Prelude.{◌≡◌, ℕ, Bool, true, false, List, Result, Ok, Err, Option, Some, None}
use Rattle.negotiate_serve.specs.declared.ending.Ending.{Ending}
use Rattle.negotiate_serve.specs.declared.ending.ServeError.{ServeError}
use Rattle.negotiate_serve.specs.declared.ending.ServeError.TheVariants as failure
use Rattle.negotiate_serve.specs.declared.ending.WrongLines.{WrongLines}
use Rattle.negotiate_serve.specs.declared.ending.WrongLines.TheVariants as wrong_lines
use Rattle.negotiate_serve.specs.Endings.{status_of}
use Rattle.negotiate_serve.specs.Transcripts.{AnsweringLines}
use Rattle.wulameron_place.specs.declared.halt.Halt.{Halt}
use Rattle.wulameron_place.specs.declared.halt.Halt.TheVariants as halt
use Rattle.wulameron_place.specs.declared.trouble.Trouble.{Trouble}
use Rattle.wulameron_place.specs.Troubles.{last_of}
use Rattle.wulameron_serve.specs.Telling.{IsLogReply}

-- A log can be used: nothing went wrong, or not for the last time.
abbrev pub IsUsable : Option Trouble → Type 0
IsUsable found = last_of found ≡ None

-- Lines are answered so, and only where the log can still be used.
abbrev pub AnswersWhileUsable : {M : Type 0} → (trouble : M → Option Trouble) → AnsweringLines M → AnsweringLines M
AnswersWhileUsable trouble Answers m line text n = IsUsable (trouble m) × Answers m line text n

-- how it ends as far as it is seen at the input and the output: where the log ends it nothing more is written, as where
-- reading fails
abbrev pub seen_as : Result Ending Halt → Result Ending ServeError
seen_as (Ok ending) = Ok ending
seen_as (Err (halt.Serving f)) = Err f
seen_as (Err (halt.Log t)) = Err failure.Reading
seen_as (Err halt.Owing) = Err failure.Reading

-- A log by which it ends isn't used any more, for this reason.
abbrev pub IsEndOf : Option Trouble → Result Ending Halt → Type 0
IsEndOf found (Err (halt.Log t)) = last_of found ≡ Some t
IsEndOf found _ = Unit {0}

-- what becomes of lines that are neither blank nor a command, by whether the first of them ends the program, and else
-- by whether each reply ends with an empty line
abbrev pub wrong_lines_of : (strict explains : Bool) → WrongLines
wrong_lines_of true explains = wrong_lines.End
wrong_lines_of false true = wrong_lines.ReplyAndEmptyLine
wrong_lines_of false false = wrong_lines.Reply

-- 0 at the end of the input, 2 after a line that is no command, 3 after a failure and where the log ends it
abbrev pub status_with : Result Ending Halt → ℕ
status_with ended = status_of (seen_as ended)

-- It is replied so; or where the log can't be used any more, it is told why.
abbrev pub IsTold : (last : Option Trouble) → (reply text : List ℕ) → Type 0
IsTold None reply text = text ≡ reply
IsTold (Some t) reply text = IsLogReply t text

-- Lines are answered so. Where the log can't be used any more after one, it is told why in place of its reply.
abbrev pub TellsTrouble : {M : Type 0} → (trouble : M → Option Trouble) → AnsweringLines M → AnsweringLines M
TellsTrouble trouble Answers m line text n =
    (reply : List ℕ) × Answers m line reply n × IsTold (last_of (trouble n)) reply text
