-- What is written of a line.
use Rattle.std.proofs.Common.{◌≡◌, ℕ, List, Option}
use Rattle.std.specs.Prelude.{Result, Ok, Err, IfOk}
use Rattle.negotiate_lines.specs.declared.line.Line.{Line}
use Rattle.negotiate_lines.specs.declared.line.Line.TheVariants as line
use Rattle.negotiate_lines.specs.declared.line_error.LineError.{LineError}
use Rattle.negotiate_lines.specs.Lines.{IsLine}
use Rattle.negotiate_lines.specs.WrongTexts.{IsWrongText}
use Rattle.negotiate_serve.specs.declared.ending.ServeError.{ServeError}
use Rattle.negotiate_serve.specs.declared.ending.ServeError.TheVariants as failure
use Rattle.negotiate_serve.specs.Outputs.{Writes}
use Rattle.negotiate_serve.specs.Reports.{IsReport, IsReportOf, WritesReport, wrong_line}

-- what is wrong, told so
pub told_reported : {S E : Type 0} (bytes_of : S → List ℕ) (program : List ℕ) (number : ℕ) (w : LineError) (told : List ℕ) → IsWrongText w told
    → (r : Result S E) → IfOk r (λ text. bytes_of text ≡ wrong_line program number told) → IfOk r (λ text. IsReportOf program number (line.NotACommand w) (bytes_of text))
told_reported bytes_of program number w told is (Ok text) same = (told, is, same)
told_reported bytes_of program number w told is (Err e) same = tt

-- of a line that is this
pub line_reported : {S E : Type 0} (bytes_of : S → List ℕ) (program : List ℕ) (number : ℕ) (bytes : List ℕ) (known : Line) → IsLine bytes known
    → (r : Result S E) → IfOk r (λ text. IsReportOf program number known (bytes_of text)) → IfOk r (λ text. IsReport program number bytes (bytes_of text))
line_reported bytes_of program number bytes known is (Ok text) reports = record { known = known; is_line = is; reports = reports }
line_reported bytes_of program number bytes known is (Err e) reports = tt

-- a text that a writer has taken is a report where it is one, since a writer's failure isn't one of memory
pub writes_report : (IsText : List ℕ → Type 0) (text : List ℕ) (r : Result (Unit {0}) ServeError) (old new : Option (List ℕ)) → IsText text
    → Writes text r old new → WritesReport IsText r old new
writes_report IsText text (Ok x) old new is writes = (text, is, writes)
writes_report IsText text (Err failure.OutOfMemory) old new is writes = absurd writes.0
writes_report IsText text (Err failure.Reading) old new is writes = (text, is, writes)
writes_report IsText text (Err failure.Writing) old new is writes = (text, is, writes)
writes_report IsText text (Err failure.TooManyLines) old new is writes = (text, is, writes)
writes_report IsText text (Err failure.TooManyTries) old new is writes = (text, is, writes)
