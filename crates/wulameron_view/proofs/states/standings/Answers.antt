use Rattle.std.proofs.Common.{List, [], ◌+◌, sym, subst, take}
use Rattle.iceoryx2_monitoring.specs.declared.state.NodeState.TheVariants as state
use Rattle.wulameron_view.specs.States.{AreStandings, none}
use Rattle.wulameron_view.specs.declared.states.NodeStanding.{NodeStanding}
use Rattle.wulameron_view.proofs.Standing.{one_more}
use Rattle.wulameron_view.proofs.states.standings.Goals as goal

pub loop-status-init : goal.loop-status-init
loop-status-init c = subst (λ (xs : List NodeStanding). AreStandings c.args.world.now [] xs) (sym c.new-found.ensures.items) none

pub loop-status-preserved : goal.loop-status-preserved
loop-status-preserved c =
    let at = c.loop-status in
    subst (λ (xs : List NodeStanding). AreStandings c.args.world.now (take (at.status-index + 1) c.args.states.now) xs) (sym c.in_ok-push.ensures.items)
    (one_more c.args.world.now c.args.states.now at.status-index (record { node = 0; state = state.Alive }) c.loop-status-test.true at.found.items at.invariant
    c.standing_in.result c.standing_in.ensures)
