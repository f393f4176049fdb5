use Rattle.iceoryx2_data.specs.Form.{IsForm}
use Rattle.wulameron_view.proofs.Listed.{row_service}
use Rattle.wulameron_view.proofs.services.service_of.Goals as goal

pub returns-in_ok-described-in-Ok : goal.returns-in_ok-described-in-Ok
returns-in_ok-described-in-Ok c =
    let s = c.in_ok-described-in-Ok.field-0 in
    let e = c.in_ok-described-in-Ok.ensures in
    let form : IsForm s.description c.as_slice.result.now = rw e.description c.in-Ok.ensures.found in
    row_service c.args.world.now c.args.hash.now c.args.row.now s c.in-Published.number c.in-Published.ensures.0 c.as_slice.result.now c.in-Some.segment.now
    c.in-Published.ensures.1 (rw c.as_slice.ensures c.bytes.ensures) form c.in-Some.ensures e.hash e.number e.room e.members
