-- What is written to the standard error where a program ends.
use Rattle.std.specs.Prelude.{ℕ, ◌≡◌, List, [], ◌++◌, codes, decimal, Option, Result, Ok, Err}
use Rattle.negotiate_lines.specs.declared.line.Line.{Line}
use Rattle.negotiate_lines.specs.declared.line.Line.TheVariants as line
use Rattle.negotiate_lines.specs.Lines.{IsLine}
use Rattle.negotiate_lines.specs.WrongTexts.{IsWrongText}
use Rattle.negotiate_serve.specs.declared.ending.Ending.{Ending}
use Rattle.negotiate_serve.specs.declared.ending.Ending.TheVariants as ending
use Rattle.negotiate_serve.specs.declared.ending.ServeError.{ServeError}
use Rattle.negotiate_serve.specs.declared.ending.ServeError.TheVariants as failure
use Rattle.negotiate_serve.specs.Endings.{reason_of}
use Rattle.negotiate_serve.specs.Outputs.{Writes}

-- the line of a failure, for a program of this name
abbrev pub failure_line : (program : List ℕ) → ServeError → List ℕ
failure_line program f = program ++ reason_of f

-- the line of what is wrong with the input's line of this number, which is told so
abbrev pub wrong_line : (program : List ℕ) → (number : ℕ) → (told : List ℕ) → List ℕ
wrong_line program k told = program ++ (codes ": line " ++ (decimal k ++ (codes ": " ++ (told ++ codes "\n"))))

-- The text is the line of what is wrong with the input's line of this number. It is empty where nothing is wrong.
abbrev pub IsReportOf : (program : List ℕ) → (number : ℕ) → Line → (text : List ℕ) → Type 0
IsReportOf program k (line.NotACommand w) text =
    (told : List ℕ) × IsWrongText w told × (text ≡ wrong_line program k told)
IsReportOf program k known text = text ≡ []

-- The same of the bytes of that line.
pub record IsReport (program : List ℕ) (number : ℕ) (bytes text : List ℕ) : Type 0 where
  pub known : Line
  pub is_line : IsLine bytes known
  pub reports : IsReportOf program number known text

-- Such a text is written, as far as the writer takes it, or there was no memory for it.
abbrev pub WritesReport : (List ℕ → Type 0) → Result (Unit {0}) ServeError → (old new : Option (List ℕ)) → Type 0
WritesReport IsText (Err failure.OutOfMemory) old new = new ≡ old
WritesReport IsText result old new = (text : List ℕ) × IsText text × Writes text result old new

-- what is written where a program of this name ends: nothing, what is wrong with a line, or the line of a failure
abbrev pub Reports : (program : List ℕ) → Result Ending ServeError → Result (Unit {0}) ServeError
    → (old new : Option (List ℕ)) → Type 0
Reports program (Ok ending.InputEnded) result old new = Writes [] result old new
Reports program (Ok (ending.NotACommand number line)) result old new =
    WritesReport (IsReport program number line.items) result old new
Reports program (Err f) result old new = Writes (failure_line program f) result old new
