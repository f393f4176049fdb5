use Rattle.std.proofs.Common.{refl, ap}
use Rattle.std.proofs.Common.{◌≡◌, Ok}
use Rattle.iceoryx2_access.specs.Letter as letter
use Rattle.iceoryx2_log.specs.declared.entry.Operation.TheVariants as operation
use Rattle.iceoryx2_journal.proofs.Following.{judged}
use Rattle.iceoryx2_journal.proofs.follow.open_segment.Goals as goal

pub returns : goal.returns
returns c =
    let i = c.args.node in
    let h = c.args.hash.now in
    judged c.args.world.now (record { node = i; hash = h; operation = operation.OpenSegment c.args.number c.args.ticket }) (letter.OpenSegment i h c.args.number c.open_segment.result) c.opened.result c.opened.ensures c.fetch.ensures (c.open_segment.result, refl)
    (λ g. ap (letter.OpenSegment i h c.args.number) g) (λ g. let same : c.open_segment.result ≡ Ok c.args.ticket = cc in same) (λ x. x) (λ f. f) c.open_segment.ensures
