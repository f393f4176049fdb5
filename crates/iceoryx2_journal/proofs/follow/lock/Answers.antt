use Rattle.std.proofs.Common.{refl, ap}
use Rattle.std.proofs.Common.{◌≡◌, Ok}
use Rattle.iceoryx2_access.specs.Letter as letter
use Rattle.iceoryx2_log.specs.declared.entry.Operation.TheVariants as operation
use Rattle.iceoryx2_journal.proofs.Following.{judged}
use Rattle.iceoryx2_journal.proofs.follow.lock.Goals as goal

pub returns : goal.returns
returns c =
    let i = c.args.node in
    let h = c.args.hash.now in
    judged c.args.world.now (record { node = i; hash = h; operation = operation.Lock c.args.number }) (letter.Lock i h c.lock.result) c.locked.result c.locked.ensures refl (c.lock.result, refl)
    (λ g. ap (letter.Lock i h) g) (λ g. let same : c.lock.result ≡ Ok c.args.number = cc in same) (λ x. x) (λ f. f) c.lock.ensures
