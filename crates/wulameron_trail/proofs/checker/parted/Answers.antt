use Rattle.std.proofs.Common.{sym, arith}
use Rattle.std.proofs.lemmas.List.{take_all}
use Rattle.iceoryx2_file_log.specs.declared.header.TheConstants.{HEADER_LENGTH}
use Rattle.wulameron_trail.proofs.checker.parted.Goals as goal

pub returns-then-bytes-lt-HEADER_LENGTH-clause-front : goal.returns-then-bytes-lt-HEADER_LENGTH-clause-front
returns-then-bytes-lt-HEADER_LENGTH-clause-front c =
    sym (take_all HEADER_LENGTH c.args.bytes.now (omega (arith, c.if-bytes-lt-HEADER_LENGTH.true)))
