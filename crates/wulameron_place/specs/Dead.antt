-- Which nodes are cleaned up for.
use Rattle.std.specs.Prelude.{ℕ, List, [], ◌∷◌, ◌++◌, Option, Some, None, codes, decimal}
use Rattle.iceoryx2_monitoring.specs.declared.state.NodeState.{NodeState}
use Rattle.iceoryx2_monitoring.specs.declared.state.NodeState.TheVariants as state
use Rattle.iceoryx2_monitoring.specs.declared.state.NodeStatus.{NodeStatus}
use Rattle.wulameron_place.specs.declared.dead.NotDead.{NotDead}
use Rattle.wulameron_place.specs.declared.dead.NotDead.TheVariants as not_dead
use Rattle.iceoryx2_file_log.specs.declared.error.FileFault.{FileFault}
use Rattle.iceoryx2_file_log.specs.declared.error.FileFault.TheVariants as file
use Rattle.iceoryx2_file_log.specs.Errors.{fault_text as file_text}
use Rattle.iceoryx2_monitoring.specs.Errors.{fault_text as monitoring_text}
use Rattle.iceoryx2_monitoring.specs.declared.error.MonitoringFault.{MonitoringFault}
use Rattle.iceoryx2_monitoring.specs.declared.error.MonitoringFault.TheVariants as fault
use Rattle.iceoryx2_postgres_log.specs.Faults.{fault_text as database_text}
use Rattle.iceoryx2_postgres_log.specs.declared.nodes.Life.{Life}
use Rattle.iceoryx2_postgres_log.specs.declared.nodes.Life.TheVariants as life
use Rattle.wulameron_place.specs.declared.claims.Claim.{Claim}
use Rattle.wulameron_place.specs.declared.claims.Claim.TheVariants as claim
use Rattle.wulameron_place.specs.declared.claims.NodeError.{NodeError}
use Rattle.wulameron_place.specs.declared.claims.NodeError.TheVariants as error
use Rattle.wulameron_place.specs.declared.claims.NodeFault.{NodeFault}
use Rattle.wulameron_place.specs.declared.claims.NodeFault.TheVariants as node_fault
use Rattle.wulameron_place.specs.Troubles.{advice_of, database_advice_of}
use Rattle.wulameron_place.specs.declared.dead.Unclaimed.{Unclaimed}
use Rattle.wulameron_place.specs.declared.dead.Unclaimed.TheVariants as unclaimed

-- the node of a claim
abbrev pub named_node : Claim → ℕ
named_node (claim.File token) = token.node
named_node (claim.Session node) = node

abbrev pub node_fault_text : NodeFault → List ℕ
node_fault_text (node_fault.IsAlive node) = codes "node " ++ decimal node ++ codes " is alive"
node_fault_text node_fault.NoFreeNode = codes "no node up to 65535 is free"
node_fault_text (node_fault.Refused f) = database_text f ++ codes "; " ++ database_advice_of f

-- what can be done where the file of a node, or the folder in which it lies, refused
abbrev pub token_advice_of : FileFault → List ℕ
token_advice_of file.NoPermission = codes "let this user make and write files in the log's folder"
token_advice_of other = advice_of other

-- why the file of a node isn't claimed, and what can be done
abbrev pub token_text : MonitoringFault → List ℕ
token_text (fault.File f) = file_text f ++ codes "; " ++ token_advice_of f
token_text other = monitoring_text other

-- why a node isn't claimed, by the fault of its file, or of the database
abbrev pub unclaimed_in_file : MonitoringFault → Unclaimed
unclaimed_in_file (fault.NodeIsAlive i) = unclaimed.IsAlive
unclaimed_in_file other = unclaimed.Refused

abbrev pub unclaimed_by : NodeError → Unclaimed
unclaimed_by (error.File e) = unclaimed_in_file e.fault
unclaimed_by (error.Database (node_fault.IsAlive node)) = unclaimed.IsAlive
unclaimed_by (error.Database other) = unclaimed.Refused

-- the state of a node of which a database tells this
abbrev pub state_by : Life → NodeState
state_by life.Alive = state.Alive
state_by life.Lost = state.Lost
state_by life.Dead = state.Dead

-- the number of a node of this state, where that is dead or lost
abbrev pub number_by : NodeState → ℕ → List ℕ
number_by state.Lost node = node ∷ []
number_by state.Dead node = node ∷ []
number_by other node = []

abbrev pub number_if_dead : NodeStatus → List ℕ
number_if_dead s = number_by s.state s.node

-- why a node of this state isn't cleaned up for
abbrev pub not_dead_of : (node : ℕ) → NodeState → Option NotDead
not_dead_of node state.Alive = Some (not_dead.IsAlive node)
not_dead_of node state.Lost = None
not_dead_of node state.Dead = None
not_dead_of node state.DoesNotExist = Some (not_dead.NeverClaimed node)

abbrev pub not_dead_text : NotDead → List ℕ
not_dead_text (not_dead.IsAlive node) = codes "node " ++ decimal node ++ codes " is alive"
not_dead_text (not_dead.NeverClaimed node) = codes "node " ++ decimal node ++ codes " was never claimed"
