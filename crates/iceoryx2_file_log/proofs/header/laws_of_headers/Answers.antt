use Rattle.iceoryx2_file_log.proofs.Headers.{one_header, long}
use Rattle.iceoryx2_file_log.proofs.header.laws_of_headers.Goals as goal

pub returns-clause-only_header : goal.returns-clause-only_header
returns-clause-only_header c = one_header

pub returns-clause-long : goal.returns-clause-long
returns-clause-long c = long
