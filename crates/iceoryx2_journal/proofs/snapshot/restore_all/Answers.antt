use Rattle.std.proofs.Common.{[], refl, sym, subst}
use Rattle.iceoryx2_access.specs.Run.{done, Run}
use Rattle.iceoryx2_journal.specs.Follow.{IsFollowed}
use Rattle.iceoryx2_journal.specs.Taking.{Takes}
use Rattle.iceoryx2_journal.proofs.Logs.{taken_not, known_known}
use Rattle.iceoryx2_journal.proofs.Reaching.{restored_more}
use Rattle.iceoryx2_journal.proofs.snapshot.restore_all.Goals as goal

pub loop-init : goal.loop-init
loop-init g c = ([], taken_not (g.L.Log.contents c.args.log.now) (g.L.Log.contents c.args.log.now) refl, done)

pub loop-preserved : goal.loop-preserved
loop-preserved g c =
    restored_more (g.L.Log.contents c.args.log.now) (g.L.Log.contents c.loop.log) (g.L.Log.contents c.restore_next.new.log) c.loop.invariant c.in-Taken.ensures

pub returns-in-Nothing : goal.returns-in-Nothing
returns-in-Nothing g c =
    let n = c.in-Nothing.ensures in
    let so_far = c.loop.invariant in
    record {
      entries = so_far.0;
      taken = known_known (Takes so_far.0) (g.L.Log.contents c.args.log.now) (g.L.Log.contents c.loop.log) (g.L.Log.contents c.restore_next.new.log) n.1 so_far.1;
      followed = subst (λ w. Run IsFollowed c.args.world.now so_far.0 w) (sym n.0) so_far.2;
    }

pub returns-in-Stopped : goal.returns-in-Stopped
returns-in-Stopped g c =
    let so_far = c.loop.invariant in
    record {
      entries = so_far.0;
      taken = known_known (Takes so_far.0) (g.L.Log.contents c.args.log.now) (g.L.Log.contents c.loop.log) (g.L.Log.contents c.restore_next.new.log) c.in-Stopped.ensures so_far.1;
      followed = tt;
    }

pub returns : goal.returns
returns g c = record { entries = c.loop.invariant.0; taken = c.loop.invariant.1; followed = tt }
