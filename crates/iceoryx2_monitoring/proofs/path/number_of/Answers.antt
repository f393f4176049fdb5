use Rattle.std.proofs.Common.{sym, ◌∙◌}
use Rattle.iceoryx2_monitoring.proofs.Numbers.{not_read, not_printed, differ}
use Rattle.iceoryx2_monitoring.proofs.path.number_of.Goals as goal

pub returns-else-eq : goal.returns-else-eq
returns-else-eq c =
    let digits = c.args.digits.now in
    let number = c.in-Ok.number in
    not_printed digits number c.parse.result c.in-Ok.is c.parse.ensures.value.0
    (differ digits c.format.result.now number (sym c.eq.ensures ∙ c.if-eq.false) c.format.ensures.text)

pub returns-in-Err : goal.returns-in-Err
returns-in-Err c = not_read c.args.digits.now c.in-Err.field-0 c.parse.result c.in-Err.is c.parse.ensures.value.0
