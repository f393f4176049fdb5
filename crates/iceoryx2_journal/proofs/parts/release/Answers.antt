use Rattle.std.proofs.Common.{refl}
use Rattle.iceoryx2_log.specs.declared.entry.Operation.TheVariants as operation
use Rattle.iceoryx2_journal.proofs.Following.{release_granted}
use Rattle.iceoryx2_journal.proofs.Logged.{wrote}
use Rattle.iceoryx2_journal.proofs.parts.release.Goals as goal

pub returns-clause-logged : goal.returns-clause-logged
returns-clause-logged g c =
    let i = c.args.node in
    let h = c.args.hash.now in
    wrote (record { node = i; hash = h; operation = operation.Release c.args.ticket c.args.number }) refl refl
    (λ p e. release_granted c.args.ticket i h c.args.number c.release-answer.result e)
    c.release-answer.ensures c.let_go.ensures.same
