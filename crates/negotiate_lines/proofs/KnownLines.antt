-- A line is what its terms are.
use Rattle.std.proofs.Common.{◌≡◌, ℕ, List, subst}
use Rattle.std.specs.Prelude.{Result, Ok, Err, IfOk}
use Rattle.std.specs.Str.{IsUtf8}
use Rattle.negotiate_lines.specs.declared.leaf.Form.{Form}
use Rattle.negotiate_lines.specs.declared.line.Line.{Line}
use Rattle.negotiate_lines.specs.declared.line.Line.TheVariants as line
use Rattle.negotiate_lines.specs.declared.line_error.LineError.TheVariants as wrong
use Rattle.negotiate_lines.specs.Terms.{terms_of}
use Rattle.negotiate_lines.specs.Lines.{AreLine, IsLineIn}
use Rattle.negotiate_lines.specs.Wrongs.{not_utf8, in_terms}

is_line : (form : Form) (bytes : List ℕ) (known : Line) → IsUtf8 bytes → AreLine form (terms_of bytes) known → IsLineIn form bytes known
is_line form bytes line.Blank utf8 are = (utf8, are)
is_line form bytes (line.Command command) utf8 are = (utf8, are)
is_line form bytes (line.NotACommand w) utf8 are = ((λ _. are.0), in_terms utf8 are.1)

pub line_known : {E : Type 0} (form : Form) (bytes text : List ℕ) (r : Result Line E) → text ≡ bytes → IsUtf8 bytes → IfOk r (AreLine form (terms_of text)) → IfOk r (IsLineIn form bytes)
line_known form bytes text (Ok known) same utf8 are = is_line form bytes known utf8 (subst (λ (t : List ℕ). AreLine form (terms_of t) known) same are)
line_known form bytes text (Err e) same utf8 are = tt

pub no_text_known : (form : Form) (bytes : List ℕ) → (IsUtf8 bytes → ⊥) → IsLineIn form bytes (line.NotACommand wrong.NotUtf8)
no_text_known form bytes none = ((λ is. absurd (none is)), not_utf8 none)
