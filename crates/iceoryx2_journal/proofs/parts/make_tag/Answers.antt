use Rattle.std.proofs.Common.{refl, ap}
use Rattle.iceoryx2_access.specs.Letter as letter
use Rattle.iceoryx2_log.specs.declared.entry.Operation.TheVariants as operation
use Rattle.iceoryx2_journal.proofs.Entries.{tag_entry}
use Rattle.iceoryx2_journal.proofs.Logged.{wrote}
use Rattle.iceoryx2_journal.proofs.parts.make_tag.Goals as goal

pub returns-clause-logged : goal.returns-clause-logged
returns-clause-logged g c =
    let i = c.args.node in
    let h = c.args.hash.now in
    wrote (record { node = i; hash = h; operation = operation.MakeTag }) refl refl
    (λ p e. ap (letter.MakeTag i h) (tag_entry i h c.make_tag-answer.result p e))
    c.make_tag-answer.ensures c.let_go.ensures.same
