use Rattle.std.proofs.Common.{subst, sym}
use Rattle.std.specs.Prelude.{IfSome, Option}
use Rattle.iceoryx2_file_log.specs.declared.cursor.State.{State}
use Rattle.iceoryx2_file_log.specs.Handle.{HasLock}
use Rattle.iceoryx2_file_log.specs.Medium.{Known}
use Rattle.iceoryx2_file_log.specs.OneFile.{Fits}
use Rattle.iceoryx2_file_log.specs.Place.{Place}
use Rattle.iceoryx2_file_log.proofs.Positions.{refused_fits}
use Rattle.iceoryx2_file_log.proofs.Holdings.{refused_lock, lock_kept}
use Rattle.iceoryx2_file_log.proofs.one_file_log.OneFileLogLog.next.Goals as goal

pub invariant_of-self-in-Err : goal.invariant_of-self-in-Err
invariant_of-self-in-Err g c =
    let o : Option Known = g.M.Medium.known c.self.inside.medium in
    let m : Option Known = g.M.Medium.known c.next.new.medium in
    let p : Place = c.next.new.cursor in
    let e = c.in-Err.ensures in (
      subst (λ (q : Place). HasLock q.state c.self.inside.is_locked) (sym c.refuse.ensures)
          (refused_lock c.in-Err.why p.state c.self.inside.is_locked
          (subst (λ (s : State). HasLock s c.self.inside.is_locked) (sym e.stays.1) c.self.invariant.0)),
      (
        subst (λ (q : Place). IfSome m (Fits q)) (sym c.refuse.ensures) (refused_fits c.in-Err.why p m e.fits),
        lock_kept c.self.inside.is_locked o m e.lock c.self.invariant.1.1,
      ),
    )
