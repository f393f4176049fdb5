use Rattle.std.proofs.Common.{refl, ap, sym, Ok, ◌∙◌}
use Rattle.iceoryx2_access.specs.Letter as letter
use Rattle.iceoryx2_log.specs.declared.entry.Operation.TheVariants as operation
use Rattle.iceoryx2_journal.proofs.Entries.{lock_entry}
use Rattle.iceoryx2_journal.proofs.Logged.{wrote}
use Rattle.iceoryx2_journal.proofs.parts.lock.Goals as goal

pub returns-clause-logged : goal.returns-clause-logged
returns-clause-logged g c =
    let i = c.args.node in
    let h = c.args.hash.now in
    wrote (record { node = i; hash = h; operation = operation.Lock c.counter-number.result }) refl refl
    (λ p e. ap (letter.Lock i h) (lock_entry i h c.lock-answer.result p e ∙ ap Ok (sym c.counter-number.ensures)))
    c.lock-answer.ensures c.let_go.ensures.same
