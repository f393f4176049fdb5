use Rattle.std.proofs.Common.{List, ℕ, string_bytes, sym, subst, refl}
use Rattle.iceoryx2_monitoring.specs.declared.error.MonitoringFault.{MonitoringFault}
use Rattle.wulameron_place.specs.declared.claims.NodeError.{NodeError}
use Rattle.wulameron_place.specs.Dead.{node_fault_text, token_text}
use Rattle.wulameron_place.specs.Nodes.{node_line}
use Rattle.wulameron_place.specs.Troubles.{WritesLine, trouble_line}
use Rattle.wulameron_place.proofs.reports.Reports.tell_claim.Goals as goal

pub returns-in-File : goal.returns-in-File
returns-in-File g c =
    let old = g.E.Write.contents c.args.self.now.errors in
    let new = g.E.Write.contents c.tell_at.new.self.errors in
    let told = c.tell_at.ensures (token_text c.fault.result) refl in
    let of_path = subst (λ (p : List ℕ). WritesLine (trouble_line p (token_text c.fault.result)) c.tell_at.result old new) c.path.ensures told in
    let of_fault = subst (λ (f : MonitoringFault). WritesLine (trouble_line (string_bytes c.in-File.error.path) (token_text f)) c.tell_at.result old new) c.fault.ensures of_path in
    subst (λ (e : NodeError). WritesLine (node_line c.args.self.now.path.now e) c.tell_at.result old new) (sym c.in-File.is) of_fault

pub returns-in-Database : goal.returns-in-Database
returns-in-Database g c =
    let old = g.E.Write.contents c.args.self.now.errors in
    let new = g.E.Write.contents c.tell.new.self.errors in
    let told = c.tell.ensures (node_fault_text c.in-Database.fault) refl in
    subst (λ (e : NodeError). WritesLine (node_line c.args.self.now.path.now e) c.tell.result old new) (sym c.in-Database.is) told
