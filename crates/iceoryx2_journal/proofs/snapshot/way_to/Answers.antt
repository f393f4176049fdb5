use Rattle.std.proofs.Common.{sym, subst}
use Rattle.iceoryx2_access.specs.Run.{done}
use Rattle.iceoryx2_world.specs.World.{empty_world}
use Rattle.iceoryx2_journal.specs.Snapshot.{IsSnapshot}
use Rattle.iceoryx2_journal.specs.declared.snapshot.TheConstants.{FIRST_NUMBER}
use Rattle.iceoryx2_journal.proofs.Catching.{written_more}
use Rattle.iceoryx2_journal.proofs.snapshot.way_to.Goals as goal

pub loop-init : goal.loop-init
loop-init c = subst (λ w. IsSnapshot FIRST_NUMBER c.new-entries.result.items w) (sym c.starting_at-copy.ensures) (subst (λ es. IsSnapshot FIRST_NUMBER es (empty_world FIRST_NUMBER)) (sym c.new-entries.ensures.items) done)

pub loop-preserved : goal.loop-preserved
loop-preserved c = written_more c.loop.invariant c.in-Taken.ensures

pub returns-in-Nothing : goal.returns-in-Nothing
returns-in-Nothing c =
    let n = c.in-Nothing.ensures in
    subst (λ w. IsSnapshot FIRST_NUMBER c.write_next.new.entries.items w) (sym n.0) (subst (λ es. IsSnapshot FIRST_NUMBER es c.loop.copy) (sym n.1) c.loop.invariant)
