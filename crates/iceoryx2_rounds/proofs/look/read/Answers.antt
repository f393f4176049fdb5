use Rattle.iceoryx2_rounds.specs.Looks.{not_decoded, malformed}
use Rattle.iceoryx2_rounds.proofs.look.read.Goals as goal

pub returns-in-Some : goal.returns-in-Some
returns-in-Some g c = c.in-Some.ensures c.args.number c.args.bytes.now c.in-Ok.ensures.found

pub returns : goal.returns
returns g c = c.in-None.ensures c.args.number c.args.bytes.now c.in-Ok.ensures.found

pub returns-in-Err-Malformed : goal.returns-in-Err-Malformed
returns-in-Err-Malformed g c = malformed (λ d form. let why = c.in-Err-Malformed.ensures.only d form in let said = c.in-Err-Malformed.field-0-is in cc)

pub returns-in-Err-OutOfMemory : goal.returns-in-Err-OutOfMemory
returns-in-Err-OutOfMemory g c = not_decoded
