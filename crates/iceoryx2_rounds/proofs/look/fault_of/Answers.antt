use Rattle.std.proofs.Common.{sym}
use Rattle.iceoryx2_rounds.specs.Looks.{other_hash, misfit, fits}
use Rattle.iceoryx2_rounds.proofs.LookSteps.{other_hashes, same_hashes}
use Rattle.iceoryx2_rounds.proofs.look.fault_of.Goals as goal

pub returns-then-ne : goal.returns-then-ne
returns-then-ne g c number bytes form = other_hash form (rw c.service_hash.ensures.value at (other_hashes c.service_hash.result.now c.args.hash.now c.ne.result c.ne.ensures c.if-ne.true))

pub returns-in-Some : goal.returns-in-Some
returns-in-Some g c number bytes form = misfit form (rw c.service_hash.ensures.value at (same_hashes c.service_hash.result.now c.args.hash.now c.ne.result c.ne.ensures c.if-ne.false)) (sym c.in-Some.ensures)

pub returns-in-None : goal.returns-in-None
returns-in-None g c number bytes form = fits form (rw c.service_hash.ensures.value at (same_hashes c.service_hash.result.now c.args.hash.now c.ne.result c.ne.ensures c.if-ne.false)) (sym c.in-None.ensures)
