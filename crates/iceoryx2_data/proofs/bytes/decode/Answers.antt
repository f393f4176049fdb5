use Rattle.std.proofs.Common.{arith}
use Rattle.iceoryx2_data.proofs.Fields.{is_found, is_only}
use Rattle.iceoryx2_data.proofs.bytes.decode.Goals as goal

pub returns-clause-found : goal.returns-clause-found
returns-clause-found c = is_found c.args.bytes.now c.all.result (λ i. omega (arith, c.type_inv.bytes i)) c.all.ensures

pub returns-clause-only : goal.returns-clause-only
returns-clause-only c = is_only c.args.bytes.now c.all.result c.all.ensures
