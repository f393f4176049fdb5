-- The nodes at a log, as lines and as JSON.
use Rattle.std.specs.Prelude.{◌≡◌, ℕ, Bool, true, false, ◌&&◌, List, ◌++◌, codes, decimal}
use Rattle.std.specs.List.{flat_map}
use Rattle.serde_json.specs.Data.{Data, boolean, null, object, no_members, member, string}
use Rattle.iceoryx2_monitoring.specs.declared.state.NodeStatus.{NodeStatus}
use Rattle.iceoryx2_world.specs.World.{World}
use Rattle.wulameron_arguments.specs.declared.asked.Form.TheVariants as form
use Rattle.wulameron_arguments.specs.declared.asked.Shown.{Shown}
use Rattle.wulameron_arguments.specs.declared.asked.Form.{Form}
use Rattle.wulameron_view.specs.Data.{array_of, count, json_line}
use Rattle.wulameron_view.specs.States.{AreStandings, standing_word}
use Rattle.wulameron_view.specs.Tables.{red}
use Rattle.wulameron_view.specs.declared.states.NodeStanding.{NodeStanding}
use Rattle.wulameron_view.specs.declared.states.Standing.{Standing}
use Rattle.wulameron_view.specs.declared.states.Standing.TheVariants as standing

-- ---- JSON

-- nothing is known of a node that was never claimed
abbrev pub standing_alive : Standing → Data
standing_alive standing.Alive = boolean true
standing_alive standing.Lost = boolean false
standing_alive standing.Dead = boolean false
standing_alive standing.Ended = boolean false
standing_alive standing.NeverClaimed = null

abbrev pub standing_data : Standing → List ℕ
standing_data standing.Alive = codes "alive"
standing_data standing.Lost = codes "lost"
standing_data standing.Dead = codes "dead"
standing_data standing.Ended = codes "ended"
standing_data standing.NeverClaimed = codes "never_claimed"

abbrev pub node_data : NodeStanding → Data
node_data n = object (
    member (codes "alive") (standing_alive n.standing)
    (member (codes "node") (count n.node)
    (member (codes "state") (string (standing_data n.standing)) no_members)))

-- Each node, in their order.
abbrev pub nodes_data : List NodeStanding → Data
nodes_data nodes = array_of node_data nodes

-- ---- the nodes as lines

abbrev pub is_left : Standing → Bool
is_left standing.Dead = true
is_left _ = false

-- that something of a dead node is left is red
abbrev pub node_line : (colours : Bool) → NodeStanding → List ℕ
node_line colours n =
    codes "node " ++ (decimal n.node ++ (codes " "
    ++ (red (colours && is_left n.standing) (standing_word n.standing) ++ codes "\n")))

abbrev pub number_line : NodeStanding → List ℕ
number_line n = decimal n.node ++ codes "\n"

-- a line for each node, or JSON
abbrev pub nodes_in : (colours : Bool) → Form → List NodeStanding → List ℕ
nodes_in colours form.Text nodes = flat_map (node_line colours) nodes
nodes_in colours form.Names nodes = flat_map number_line nodes
nodes_in colours form.Json nodes = json_line (nodes_data nodes)
nodes_in colours form.JsonLines nodes = flat_map (λ n. json_line (node_data n)) nodes

-- It is what is printed of these nodes, as they stand in this world.
pub record AreNodes (shown : Shown) (states : List NodeStatus) (w : World) (text : List ℕ) : Type 0 where
  pub nodes : List NodeStanding
  pub stand : AreStandings w states nodes
  pub is : text ≡ nodes_in shown.is_coloured shown.form nodes
