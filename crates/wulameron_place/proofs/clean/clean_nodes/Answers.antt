use Rattle.std.proofs.Common.{◌≡◌, ℕ, List, subst, ◌∙◌}
use Rattle.iceoryx2_journal.specs.Journal.{JournalState}
use Rattle.iceoryx2_journal.specs.Taking.{is_own}
use Rattle.iceoryx2_world.specs.Interference.{Rely}
use Rattle.iceoryx2_world.proofs.agreement.Interference.{rely_both}
use Rattle.wulameron_place.proofs.clean.clean_nodes.Goals as goal

-- what one node after another was cleaned up for keeps
more_kept : {L : Type 0} (a b c : JournalState L) → Rely (is_own a.nodes) a.world b.world → b.nodes ≡ a.nodes → Rely (is_own b.nodes) b.world c.world → Rely (is_own a.nodes) a.world c.world
more_kept a b c x same y = rely_both (is_own a.nodes) a.world b.world c.world x (subst (λ (ns : List ℕ). Rely (is_own ns) b.world c.world) same y)

pub returns-in_err-write_cleaned-in-Cleaned-clause-kept :
    goal.returns-in_err-write_cleaned-in-Cleaned-clause-kept
returns-in_err-write_cleaned-in-Cleaned-clause-kept g c =
    let so_far = c.loop-node.invariant in
    more_kept c.args.journal.now c.loop-node.journal c.clean_node.new.journal so_far.0 so_far.1 c.clean_node.ensures.kept

pub loop-node-preserved : goal.loop-node-preserved
loop-node-preserved g c =
    let so_far = c.loop-node.invariant in
    (more_kept c.args.journal.now c.loop-node.journal c.clean_node.new.journal so_far.0 so_far.1 c.clean_node.ensures.kept, c.clean_node.ensures.nodes ∙ so_far.1)
