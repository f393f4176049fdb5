use Rattle.wulameron_trail.proofs.Walking.{no_header}
use Rattle.wulameron_trail.proofs.checker.header_of.Goals as goal

pub returns-clause-fault : goal.returns-clause-fault
returns-clause-fault c =
    no_header c.args.bytes.now c.decode.result c.decode.ensures.header c.decode.ensures.not_a_log c.decode.ensures.another_version
