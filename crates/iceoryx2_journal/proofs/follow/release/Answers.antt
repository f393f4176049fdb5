use Rattle.std.proofs.Common.{refl}
use Rattle.iceoryx2_journal.proofs.Following.{release_granted, release_only}
use Rattle.iceoryx2_access.specs.Letter as letter
use Rattle.iceoryx2_log.specs.declared.entry.Operation.TheVariants as operation
use Rattle.iceoryx2_journal.proofs.Following.{judged}
use Rattle.iceoryx2_journal.proofs.follow.release.Goals as goal

pub returns : goal.returns
returns c =
    let i = c.args.node in
    let h = c.args.hash.now in
    judged c.args.world.now (record { node = i; hash = h; operation = operation.Release c.args.ticket c.args.number }) (letter.Release c.args.ticket i h c.args.number c.release.result) c.released.result c.released.ensures refl (c.release.result, refl)
    (λ g. release_granted c.args.ticket i h c.args.number c.release.result g) (λ g. release_only c.args.ticket i h c.args.number c.release.result g) (λ x. absurd x) (λ f. f) c.release.ensures
