use Rattle.std.proofs.Common.{List, ℕ, refl, subst}
use Rattle.wulameron_place.specs.Troubles.{WritesLine, trouble_line}
use Rattle.wulameron_place.proofs.reports.Reports.tell_stays.Goals as goal

pub returns : goal.returns
returns g c =
    let old = g.E.Write.contents c.args.self.now.errors in
    let new = g.E.Write.contents c.tell.new.self.errors in
    let told = c.tell.ensures c.stays.result.now refl in
    subst (λ (t : List ℕ). WritesLine (trouble_line c.args.self.now.path.now t) c.tell.result old new) c.stays.ensures told
