use Rattle.std.proofs.Common.{sym, subst}
use Rattle.iceoryx2_world.specs.Listing.{Lists}
use Rattle.wulameron_serve.proofs.Told.{found_in}
use Rattle.wulameron_serve.proofs.refused.existing_in.Goals as goal

pub returns : goal.returns
returns g c =
    found_in (g.S.WorldStorage.world c.args.storage.now) c.args.call.now c.deref.result.now
    (subst (λ es. Lists (g.S.WorldStorage.world c.args.storage.now) es) (sym c.deref.ensures.value) c.in_ok-entries.ensures) c.service_of.result c.service_of.ensures
