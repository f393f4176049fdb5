use Rattle.std.proofs.Common.{arith}
use Rattle.std.proofs.lemmas.Grind.{common_steps}
use Rattle.iceoryx2_data.proofs.bytes.writing.put_description.Goals as goal

pub returns-clause-form : goal.returns-clause-form
returns-clause-form c = grind (arith, common_steps)
