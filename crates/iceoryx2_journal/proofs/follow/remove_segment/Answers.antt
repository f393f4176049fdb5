use Rattle.std.proofs.Common.{refl, ap}
use Rattle.std.proofs.Common.{◌≡◌, Ok}
use Rattle.iceoryx2_access.specs.Letter as letter
use Rattle.iceoryx2_log.specs.declared.entry.Operation.TheVariants as operation
use Rattle.iceoryx2_journal.proofs.Following.{judged}
use Rattle.iceoryx2_journal.proofs.follow.remove_segment.Goals as goal

pub returns : goal.returns
returns c =
    let i = c.args.node in
    let h = c.args.hash.now in
    judged c.args.world.now (record { node = i; hash = h; operation = operation.RemoveSegment }) (letter.RemoveSegment i h c.remove_segment.result) c.removed.result c.removed.ensures refl (c.remove_segment.result, refl)
    (λ g. ap (letter.RemoveSegment i h) g) (λ g. let same : c.remove_segment.result ≡ Ok tt = cc in same) (λ x. absurd x) (λ f. f) c.remove_segment.ensures
