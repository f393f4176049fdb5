use Rattle.escaped_serve.specs.Entries.{described}
use Rattle.escaped_serve.proofs.Listings.{malformed, locked, absent}
use Rattle.escaped_serve.proofs.entries.description_of.Goals as goal

pub returns-in-Ok : goal.returns-in-Ok
returns-in-Ok c = described c.in-Published.is (rw c.as_slice.ensures at c.in-Ok.ensures.found)

pub returns-in-Err-Malformed : goal.returns-in-Err-Malformed
returns-in-Err-Malformed c = malformed c.args.row.now c.in-Published.field-0 c.in-Published.bytes c.as_slice.result.now c.in-Err-Malformed.field-0
    c.in-Published.is c.as_slice.ensures c.in-Err-Malformed.field-0-is c.in-Err-Malformed.ensures.only

pub returns-in-Locked : goal.returns-in-Locked
returns-in-Locked c = locked c.args.row.now c.in-Locked.field-0 c.in-Locked.is

pub returns-in-Absent : goal.returns-in-Absent
returns-in-Absent c = absent c.args.row.now c.in-Absent.is
