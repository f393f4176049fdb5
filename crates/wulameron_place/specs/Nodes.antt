-- What is written of a node that isn't claimed.
use Rattle.std.specs.Prelude.{ℕ, List, string_bytes}
use Rattle.wulameron_place.specs.declared.claims.NodeError.{NodeError}
use Rattle.wulameron_place.specs.declared.claims.NodeError.TheVariants as error
use Rattle.wulameron_place.specs.Dead.{node_fault_text, token_text}
use Rattle.wulameron_place.specs.Troubles.{trouble_line}

-- the line of why a node isn't claimed: of its file, or at the place of this name
abbrev pub node_line : (place : List ℕ) → NodeError → List ℕ
node_line place (error.File e) = trouble_line (string_bytes e.path) (token_text e.fault)
node_line place (error.Database f) = trouble_line place (node_fault_text f)
