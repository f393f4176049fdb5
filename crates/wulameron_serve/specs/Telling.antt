-- What programs are told of a log, or of nodes, that refuse.
use Rattle.std.specs.Prelude.{◌≡◌, ℕ, List, ◌++◌, Option, Some, Result, Ok, Err, codes, decimal, string_bytes}
use Rattle.std.specs.declared.alloc.AllocError.{AllocError}
use Rattle.iceoryx2_monitoring.specs.declared.error.MonitoringFault.{MonitoringFault}
use Rattle.iceoryx2_monitoring.specs.declared.error.MonitoringFault.TheVariants as fault
use Rattle.iceoryx2_monitoring.specs.Errors.{monitoring_error_text}
use Rattle.negotiate_lines.specs.Leaves.{leaf_of}
use Rattle.negotiate_serve.specs.declared.ending.ServeError.{ServeError}
use Rattle.negotiate_serve.specs.Outputs.{Writes}
use Rattle.negotiate_serve.specs.Transcripts.{out_of_memory}
use Rattle.wulameron_place.specs.declared.claims.NodeError.{NodeError}
use Rattle.wulameron_place.specs.declared.claims.NodeError.TheVariants as error
use Rattle.wulameron_place.specs.declared.claims.NodeFault.{NodeFault}
use Rattle.wulameron_place.specs.declared.claims.NodeFault.TheVariants as node_fault
use Rattle.wulameron_place.specs.declared.trouble.Trouble.{Trouble}
use Rattle.wulameron_place.specs.Dead.{node_fault_text}
use Rattle.wulameron_place.specs.Troubles.{trouble_text}

-- the line that answers nothing: the number of this form of lines, and the node
abbrev pub greeting_of : (node : ℕ) → List ℕ
greeting_of node = codes "ready 3 " ++ decimal node ++ codes "\n"

-- the line of these words, with a leaf behind them
abbrev pub told_line : (words why : List ℕ) → List ℕ
told_line words why = words ++ codes " " ++ leaf_of why ++ codes "\n"

-- The line tells why the log can't be used.
abbrev pub IsLogReply : Trouble → (text : List ℕ) → Type 0
IsLogReply t text =
    (why : List ℕ) × (trouble_text t ≡ Some why) × (text ≡ told_line (codes "log") (codes "the log " ++ why))

-- why a node isn't claimed, or not looked at
abbrev pub node_why : NodeError → List ℕ
node_why (error.File e) = monitoring_error_text (string_bytes e.path) e.fault
node_why (error.Database f) = codes "the log's " ++ node_fault_text f

-- by which word that is told: a file or a database refuses, or the node is used
abbrev pub file_word : MonitoringFault → List ℕ
file_word (fault.File f) = codes "log"
file_word _ = codes "in use"

abbrev pub database_word : NodeFault → List ℕ
database_word (node_fault.Refused f) = codes "log"
database_word _ = codes "in use"

abbrev pub unclaimed_word : NodeError → List ℕ
unclaimed_word (error.File e) = file_word e.fault
unclaimed_word (error.Database f) = database_word f

abbrev pub unclaimed_line : NodeError → List ℕ
unclaimed_line e = told_line (unclaimed_word e) (node_why e)

-- the line that the log refuses for this reason
abbrev pub refused_line : (why : List ℕ) → List ℕ
refused_line why = told_line (codes "refused by the log") why

-- The line tells that the log refuses for this reason.
abbrev pub IsRefusal : Trouble → (text : List ℕ) → Type 0
IsRefusal t text =
    (why : List ℕ) × (trouble_text t ≡ Some why)
    × (text ≡ told_line (codes "refused by the log") (codes "the log " ++ why))

-- The writer has taken this, or a front of it where it fails.
abbrev pub IsTaken : (text : List ℕ) → (old new : Option (List ℕ)) → Type 0
IsTaken text old new = (result : Result (Unit {0}) ServeError) × Writes text result old new

-- a line, or that there was no memory for it
abbrev pub told_or_no_memory : Result (Unit {0}) AllocError → (line : List ℕ) → List ℕ
told_or_no_memory (Ok told) line = line
told_or_no_memory (Err e) line = out_of_memory
