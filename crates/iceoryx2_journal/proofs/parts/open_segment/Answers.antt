use Rattle.std.proofs.Common.{refl, ap, sym, Ok, ◌∙◌}
use Rattle.iceoryx2_access.specs.Letter as letter
use Rattle.iceoryx2_log.specs.declared.entry.Operation.TheVariants as operation
use Rattle.iceoryx2_journal.proofs.Entries.{open_entry}
use Rattle.iceoryx2_journal.proofs.Logged.{wrote}
use Rattle.iceoryx2_journal.proofs.parts.open_segment.Goals as goal

pub returns-clause-logged : goal.returns-clause-logged
returns-clause-logged g c =
    let i = c.args.node in
    let h = c.args.hash.now in
    wrote (record { node = i; hash = h; operation = operation.OpenSegment c.args.number c.counter-ticket.result }) refl refl
    (λ p e. ap (letter.OpenSegment i h c.args.number)
    (open_entry i h c.args.number c.open_segment-answer.result p e ∙ ap Ok (sym c.counter-ticket.ensures)))
    c.open_segment-answer.ensures c.let_go.ensures.same
