-- What is replied to the question which nodes there are.
use Rattle.std.specs.Prelude.{ℕ, List, ◌++◌, codes, decimal, length}
use Rattle.std.specs.List.{flat_map}
use Rattle.iceoryx2_monitoring.specs.declared.state.NodeStatus.{NodeStatus}
use Rattle.iceoryx2_world.specs.World.{World}
use Rattle.wulameron_place.specs.declared.claims.NodeError.{NodeError}
use Rattle.wulameron_serve.specs.Telling.{node_why, refused_line}
use Rattle.wulameron_view.specs.Nodes.{standing_data}
use Rattle.wulameron_view.specs.States.{AreStandings}
use Rattle.wulameron_view.specs.declared.states.NodeStanding.{NodeStanding}

-- a node with its standing, by the word that JSON has for it, behind a space
abbrev pub node_word : NodeStanding → List ℕ
node_word n = codes " " ++ decimal n.node ++ codes "," ++ standing_data n.standing

-- how many they are, and each with its standing
abbrev pub nodes_reply : List NodeStanding → List ℕ
nodes_reply nodes = codes "nodes " ++ decimal (length nodes) ++ flat_map node_word nodes ++ codes "\n"

-- Nodes are told as they stand in this world, or why they can't be had.
pub data IsNodesReply (w : World) : (text : List ℕ) → Type 0 where
  told : {states : List NodeStatus} {nodes : List NodeStanding} → AreStandings w states nodes
      → IsNodesReply w (nodes_reply nodes)
  refused : (e : NodeError) → IsNodesReply w (refused_line (node_why e))
