use Rattle.std.proofs.Common.{inl, sym}
use Rattle.wulameron_serve.proofs.run.settle_end.Goals as goal

pub returns-in-Err : goal.returns-in-Err
returns-in-Err g c = record { last = c.settle.new.self; gives = c.settle.ensures.after; rest = tt; ends = inl (sym c.in-Err.is) }
