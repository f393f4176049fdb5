-- What a line is.
use Rattle.std.specs.Prelude.{ℕ, ◌≡◌, ◌≢◌, ◌-◌, ◌==◌, List, [], length, take, slice_index, if◌then◌else◌}
use Rattle.std.specs.Str.{IsUtf8}
use Rattle.iceoryx2_builder.specs.declared.command.Command.{Command}
use Rattle.negotiate_lines.specs.declared.leaf.Form.{Form}
use Rattle.negotiate_lines.specs.declared.leaf.Form.TheVariants as form
use Rattle.negotiate_lines.specs.Terms.{terms_of}
use Rattle.negotiate_lines.specs.Commands.{IsCommandOf}
use Rattle.negotiate_lines.specs.Wrongs.{WrongTerms, IsWrong}
use Rattle.negotiate_lines.specs.declared.line.Line.{Line}
use Rattle.negotiate_lines.specs.declared.line.Line.TheVariants as line

-- ---- the end of a line

-- the line without this byte at its end
abbrev pub without_last : ℕ → List ℕ → List ℕ
without_last byte line = if slice_index line (length line - 1) == byte then take (length line - 1) line else line

-- the line without its end: one line feed, and one carriage return before that
abbrev pub without_end_of : List ℕ → List ℕ
without_end_of line = without_last 13 (without_last 10 line)

-- ---- lines, by how their leaves are written

-- There are terms, and they are no command.
abbrev pub AreNoCommand : Form → List (List ℕ) → Type 0
AreNoCommand form terms = (terms ≢ []) × ((c : Command) → IsCommandOf form terms c → ⊥)

-- The terms are what the line is given as: nothing, a command, or terms that are no command, with what is wrong.
abbrev pub AreLine : Form → List (List ℕ) → Line → Type 0
AreLine form terms line.Blank = terms ≡ []
AreLine form terms (line.Command c) = IsCommandOf form terms c
AreLine form terms (line.NotACommand w) = AreNoCommand form terms × WrongTerms form terms w

-- The bytes are neither blank nor a command. Bytes that are no text are neither.
abbrev pub IsNoCommandIn : Form → List ℕ → Type 0
IsNoCommandIn form bytes = IsUtf8 bytes → AreNoCommand form (terms_of bytes)

-- The bytes are what the line is given as. Where they are neither blank nor a command this is the first thing that is
-- wrong.
abbrev pub IsLineIn : Form → List ℕ → Line → Type 0
IsLineIn form bytes line.Blank = IsUtf8 bytes × AreLine form (terms_of bytes) line.Blank
IsLineIn form bytes (line.Command c) = IsUtf8 bytes × AreLine form (terms_of bytes) (line.Command c)
IsLineIn form bytes (line.NotACommand w) = IsNoCommandIn form bytes × IsWrong form bytes w

-- ---- lines of which the leaves are as they are

abbrev pub IsNoCommand : List ℕ → Type 0
IsNoCommand = IsNoCommandIn form.Plain

abbrev pub IsLine : List ℕ → Line → Type 0
IsLine = IsLineIn form.Plain
