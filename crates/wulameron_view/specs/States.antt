-- Whether nodes are alive, and whether something of them is left.
use Rattle.std.specs.Prelude.{◌≡◌, ℕ, Bool, true, false, ◌==◌, List, [], ◌∷◌, Option, Some, None, codes, filter, length}
use Rattle.std.specs.Prelude.{if◌then◌else◌}
use Rattle.std.specs.List.{find}
use Rattle.std.specs.Option.{option_map}
use Rattle.iceoryx2_monitoring.specs.declared.state.NodeState.{NodeState}
use Rattle.iceoryx2_monitoring.specs.declared.state.NodeState.TheVariants as state
use Rattle.iceoryx2_monitoring.specs.declared.state.NodeStatus.{NodeStatus}
use Rattle.iceoryx2_table.specs.Holdings.{IsHolding}
use Rattle.iceoryx2_table.specs.declared.holdings.Holding.{Holding}
use Rattle.iceoryx2_world.specs.World.{World}
use Rattle.wulameron_view.specs.declared.services.Creation.{Creation}
use Rattle.wulameron_view.specs.declared.services.Member.{Member}
use Rattle.wulameron_view.specs.declared.states.NodeStanding.{NodeStanding}
use Rattle.wulameron_view.specs.declared.states.Standing.{Standing}
use Rattle.wulameron_view.specs.declared.states.Standing.TheVariants as standing

-- ---- a node that is in a service

abbrev pub state_or_none : Option NodeState → NodeState
state_or_none (Some found) = found
state_or_none None = state.DoesNotExist

-- its state among these, and that it was never claimed where it has none
abbrev pub state_of : List NodeStatus → ℕ → NodeState
state_of states node = state_or_none (option_map (λ status. status.state) (find (λ status. status.node == node) states))

abbrev pub state_word : NodeState → List ℕ
state_word state.Alive = codes "alive"
state_word state.Lost = codes "lost"
state_word state.Dead = codes "dead"
state_word state.DoesNotExist = codes "never claimed"

abbrev pub is_gone : NodeState → Bool
is_gone state.Dead = true
is_gone _ = false

abbrev pub is_lost : NodeState → Bool
is_lost state.Lost = true
is_lost _ = false

-- its process is gone
abbrev pub is_dead : List NodeStatus → ℕ → Bool
is_dead states node = is_gone (state_of states node)

-- how many of these are dead
abbrev pub dead_count : List NodeStatus → List Member → ℕ
dead_count states members = length (filter (λ m. is_dead states m.node) members)

-- how many of those are dead that hold the lock: one at most
abbrev pub dead_among : List NodeStatus → Option ℕ → ℕ
dead_among states None = 0
dead_among states (Some node) = if is_dead states node then 1 else 0

abbrev pub dead_holders : List NodeStatus → Creation → ℕ
dead_holders states c = dead_among states c.node

-- how many of these are lost
abbrev pub lost_count : List NodeStatus → List Member → ℕ
lost_count states members = length (filter (λ m. is_lost (state_of states m.node)) members)

-- how many of those are lost that hold the lock: one at most
abbrev pub lost_among : List NodeStatus → Option ℕ → ℕ
lost_among states None = 0
lost_among states (Some node) = if is_lost (state_of states node) then 1 else 0

abbrev pub lost_holders : List NodeStatus → Creation → ℕ
lost_holders states c = lost_among states c.node

-- ---- a node at a log

-- A dead node left something that it had, and an ended one nothing. A lost one may have something still.
abbrev pub StandsAs : World → ℕ → NodeState → Standing → Type 0
StandsAs w i state.Dead standing.Dead = (held : Holding) × IsHolding w i (Some held)
StandsAs w i state.Dead standing.Ended = IsHolding w i None
StandsAs w i state.Alive found = found ≡ standing.Alive
StandsAs w i state.Lost found = found ≡ standing.Lost
StandsAs w i state.DoesNotExist found = found ≡ standing.NeverClaimed
StandsAs w i state.Dead _ = ⊥

abbrev pub IsStandingIn : World → NodeStatus → NodeStanding → Type 0
IsStandingIn w s found = (found.node ≡ s.node) × StandsAs w s.node s.state found.standing

-- Each of these nodes stands so, in their order.
pub data AreStandings (w : World) : List NodeStatus → List NodeStanding → Type 0 where
  none : AreStandings w [] []
  one : {s : NodeStatus} {states : List NodeStatus} {found : NodeStanding} {others : List NodeStanding}
      → IsStandingIn w s found → AreStandings w states others → AreStandings w (s ∷ states) (found ∷ others)

abbrev pub standing_word : Standing → List ℕ
standing_word standing.Alive = codes "alive"
standing_word standing.Lost = codes "lost"
standing_word standing.Dead = codes "dead"
standing_word standing.Ended = codes "ended"
standing_word standing.NeverClaimed = codes "never claimed"
