-- What the program prints, by its argument.
use Rattle.std.specs.Prelude.{ℕ, List, [], Option, Some, None, bytes_eq, codes, if◌then◌else◌}
use Rattle.explain_serve.specs.declared.format.Format.{Format}
use Rattle.explain_serve.specs.declared.format.Format.TheVariants as format

-- the format that an argument asks for
abbrev pub format_named : List ℕ → Option Format
format_named word = if bytes_eq word (codes "--diagram") then Some format.Diagram else None

-- what is printed before the first line is read
abbrev pub head_of : Format → List ℕ
head_of format.Lines = []
head_of format.Diagram = codes "sequenceDiagram\n    participant storage\n"
