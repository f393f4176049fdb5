use Rattle.std.proofs.Common.{refl, ap}
use Rattle.iceoryx2_access.specs.Letter as letter
use Rattle.iceoryx2_log.specs.declared.entry.Operation.TheVariants as operation
use Rattle.iceoryx2_journal.proofs.Entries.{unit_granted}
use Rattle.iceoryx2_journal.proofs.Logged.{wrote}
use Rattle.iceoryx2_journal.proofs.parts.remove_description.Goals as goal

pub returns-clause-logged : goal.returns-clause-logged
returns-clause-logged g c =
    let i = c.args.node in
    let h = c.args.hash.now in
    wrote (record { node = i; hash = h; operation = operation.RemoveDescription }) refl refl
    (λ p e. ap (letter.RemoveDescription i h) (unit_granted c.remove_description-answer.result e))
    c.remove_description-answer.ensures c.let_go.ensures.same
