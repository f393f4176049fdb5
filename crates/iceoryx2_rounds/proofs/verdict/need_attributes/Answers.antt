use Rattle.iceoryx2_rounds.proofs.OwnAttributes.{nothing_lacks, something_lacks}
use Rattle.iceoryx2_rounds.proofs.verdict.need_attributes.Goals as goal

pub returns-in-Ok : goal.returns-in-Ok
returns-in-Ok g c = nothing_lacks c.args.error c.args.verifier.now c.args.existing.now c.in-Ok.ensures.first

pub returns-in-Err : goal.returns-in-Err
returns-in-Err g c = something_lacks c.args.error c.args.verifier.now c.args.existing.now _ c.in-Err.ensures.first
