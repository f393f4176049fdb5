use Rattle.std.proofs.Common.{ap, sym, ◌∙◌, ◌++◌, Ok, refl}
use Rattle.iceoryx2_postgres_log.proofs.RowParts.{row_is}
use Rattle.iceoryx2_postgres_log.proofs.row.row_of.Goals as goal

pub returns : goal.returns
returns c =
    row_is c.args.number c.args.line.now c.as_bytes.result.now c.in-Some.rest.now c.in-Some-split_at_checked.sum.now
    c.in-Some-split_at_checked.after.now c.in-Some-behind.digits.now _
    (c.as_bytes.ensures.value ∙ c.in_ok-front.ensures) c.in-Some.ensures c.in-Some-split_at_checked.ensures.cases c.in-Some-behind.ensures
    (c.new.ensures ∙ c.in_ok-extend_from_slice.ensures.items
    ∙ ap (λ l. l ++ c.in-Some-split_at_checked.sum.now) (c.in_ok-place.ensures.items ∙ c.as_bytes-2.ensures.value ∙ sym c.as_bytes.ensures.value))
    (c.in-Ok.ensures.ok ∙ ap Ok (sym c.new-2.ensures)) refl
