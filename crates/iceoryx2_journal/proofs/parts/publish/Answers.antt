use Rattle.std.proofs.Common.{refl, ap, sym, subst}
use Rattle.iceoryx2_data.specs.Form.{IsForm}
use Rattle.iceoryx2_access.specs.Letter as letter
use Rattle.iceoryx2_log.specs.declared.entry.Operation.TheVariants as operation
use Rattle.iceoryx2_journal.specs.Logged.{declined}
use Rattle.iceoryx2_journal.proofs.Entries.{publish_entry}
use Rattle.iceoryx2_journal.proofs.Logged.{wrote}
use Rattle.iceoryx2_journal.proofs.parts.publish.Goals as goal

pub returns-clause-logged : goal.returns-clause-logged
returns-clause-logged g c =
    let i = c.args.node in
    let h = c.args.hash.now in
    let n = c.args.number in
    let d = c.args.description.now in
    wrote (record { node = i; hash = h; operation = operation.Publish n c.new.result }) refl refl
    (λ p e. (
      d,
      subst (IsForm d) (sym c.new.ensures) c.in-Ok.ensures,
      ap (letter.Publish i h n d) (publish_entry i h n d c.publish-answer.result p e),
    ))
    c.publish-answer.ensures c.let_go-2.ensures.same

pub returns-in_default-clause-logged : goal.returns-in_default-clause-logged
returns-in_default-clause-logged g c = declined refl refl c.let_go.ensures.same
