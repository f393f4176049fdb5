use Rattle.std.proofs.Common.{refl, ap}
use Rattle.std.proofs.Common.{◌≡◌, Ok}
use Rattle.iceoryx2_access.specs.Letter as letter
use Rattle.iceoryx2_log.specs.declared.entry.Operation.TheVariants as operation
use Rattle.iceoryx2_journal.proofs.Following.{judged}
use Rattle.iceoryx2_journal.proofs.follow.make_segment.Goals as goal

pub returns : goal.returns
returns c =
    let i = c.args.node in
    let h = c.args.hash.now in
    judged c.args.world.now (record { node = i; hash = h; operation = operation.MakeSegment c.args.number c.args.max_nodes }) (letter.MakeSegment i h c.args.number c.args.max_nodes c.make_segment.result) c.made_segment.result c.made_segment.ensures refl (c.make_segment.result, refl)
    (λ g. ap (letter.MakeSegment i h c.args.number c.args.max_nodes) g) (λ g. let same : c.make_segment.result ≡ Ok tt = cc in same) (λ x. x) (λ f. f) c.make_segment.ensures
