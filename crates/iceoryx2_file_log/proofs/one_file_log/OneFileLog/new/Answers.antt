use Rattle.std.proofs.Common.{subst, sym, false, refl}
use Rattle.std.specs.Prelude.{IfSome, Option}
use Rattle.iceoryx2_file_log.specs.Handle.{HasLock}
use Rattle.iceoryx2_file_log.specs.Medium.{Known}
use Rattle.iceoryx2_file_log.specs.OneFile.{Fits}
use Rattle.iceoryx2_file_log.specs.Place.{Place}
use Rattle.iceoryx2_file_log.proofs.Holdings.{start_fits}
use Rattle.iceoryx2_file_log.proofs.one_file_log.OneFileLog.new.Goals as goal

pub invariant_of-result : goal.invariant_of-result
invariant_of-result g c =
    let o : Option Known = g.M.Medium.known c.args.medium in (
      subst (λ (p : Place). HasLock p.state false) (sym c.new.ensures) refl,
      (
        subst (λ (p : Place). IfSome o (Fits p)) (sym c.new.ensures) (start_fits o c.requires.free c.requires.bytes c.requires.long),
        c.requires.free,
      ),
    )
