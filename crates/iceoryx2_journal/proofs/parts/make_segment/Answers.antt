use Rattle.std.proofs.Common.{refl, ap}
use Rattle.iceoryx2_access.specs.Letter as letter
use Rattle.iceoryx2_log.specs.declared.entry.Operation.TheVariants as operation
use Rattle.iceoryx2_journal.proofs.Entries.{unit_granted}
use Rattle.iceoryx2_journal.proofs.Logged.{wrote}
use Rattle.iceoryx2_journal.proofs.parts.make_segment.Goals as goal

pub returns-clause-logged : goal.returns-clause-logged
returns-clause-logged g c =
    let i = c.args.node in
    let h = c.args.hash.now in
    wrote (record { node = i; hash = h; operation = operation.MakeSegment c.args.number c.args.max_nodes }) refl refl
    (λ p e. ap (letter.MakeSegment i h c.args.number c.args.max_nodes) (unit_granted c.make_segment-answer.result e))
    c.make_segment-answer.ensures c.let_go.ensures.same
