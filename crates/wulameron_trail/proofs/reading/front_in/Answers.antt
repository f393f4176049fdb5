use Rattle.wulameron_trail.proofs.Pieces.{front_is}
use Rattle.wulameron_trail.proofs.reading.front_in.Goals as goal

pub returns-in-Ok-clause-front : goal.returns-in-Ok-clause-front
returns-in-Ok-clause-front c =
    front_is c.args.bytes.now c.in-Ok.front c.in-Ok.ensures.whole c.in-Ok.ensures.only c.in-Ok.ensures.torn c.in-Ok.ensures.unfinished
