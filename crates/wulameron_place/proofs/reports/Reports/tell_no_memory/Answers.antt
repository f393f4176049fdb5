use Rattle.wulameron_place.proofs.WrittenLines.{told_front, told_whole}
use Rattle.wulameron_place.proofs.reports.Reports.tell_no_memory.Goals as goal

pub returns-in-Ok : goal.returns-in-Ok
returns-in-Ok g c = told_whole c.tell_failure.result (g.E.Write.contents c.args.self.now.errors) (g.E.Write.contents c.tell_failure.new.self.errors) c.tell_failure.ensures _ c.in-Ok.is

pub returns-in-Err : goal.returns-in-Err
returns-in-Err g c = told_front c.tell_failure.result (g.E.Write.contents c.args.self.now.errors) (g.E.Write.contents c.tell_failure.new.self.errors) c.tell_failure.ensures c.in-Err.failure c.in-Err.is
