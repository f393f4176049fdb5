use Rattle.std.proofs.Common.{Err, rules, subst}
use Rattle.iceoryx2_journal.specs.Follow.{Follows}
use Rattle.wulameron_trail.proofs.checker.accessed.Goals as goal

pub returns-in-Ok : goal.returns-in-Ok
returns-in-Ok c =
    λ rest access. (c.args.entry.now, access, search rules, c.in-Ok.ensures)

pub returns-in-Disagrees : goal.returns-in-Disagrees
returns-in-Disagrees c =
    let differs = subst (λ x. Follows c.args.entry.now (Err x) c.args.world.now c.follow.new.world) c.in-Disagrees.is c.in-Err.ensures in
    λ rest access. (c.args.entry.now, c.args.span.count, c.follow.new.world, access, search rules, differs)
