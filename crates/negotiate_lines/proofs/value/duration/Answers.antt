use Rattle.negotiate_lines.specs.Terms.{IsNumber}
use Rattle.negotiate_lines.specs.Values.{IsNatural, IsSpanTerm}
use Rattle.negotiate_lines.proofs.OneValue.{no_seconds, no_nanoseconds}
use Rattle.negotiate_lines.proofs.Reading.{none_found}
use Rattle.negotiate_lines.proofs.value.duration.Goals as goal

pub returns-in_err-seconds : goal.returns-in_err-seconds
returns-in_err-seconds c =
    none_found (IsNatural c.in-Some.seconds.now) (IsSpanTerm c.args.value.now) _ _ c.from_residual.ensures.1 c.in_err-seconds.ensures
    (no_seconds _ _ _ c.in-Some.ensures)

pub returns-in_err-nanoseconds : goal.returns-in_err-nanoseconds
returns-in_err-nanoseconds c =
    none_found (IsNumber 1000000000 c.in-Some.nanoseconds.now) (IsSpanTerm c.args.value.now) _ _ c.from_residual-in_err-nanoseconds.ensures.1
    c.in_err-nanoseconds.ensures (no_nanoseconds _ _ _ c.in-Some.ensures)
