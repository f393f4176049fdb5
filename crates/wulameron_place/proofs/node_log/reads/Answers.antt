use Rattle.iceoryx2_journal.specs.Replay.{begun, refreshes}
use Rattle.wulameron_place.proofs.node_log.reads.Goals as goal

pub returns-then-look-clause-lives : goal.returns-then-look-clause-lives
returns-then-look-clause-lives g c = refreshes c.look.result begun c.look.ensures.takes

pub returns-clause-lives : goal.returns-clause-lives
returns-clause-lives g c = refreshes c.look.result begun c.look.ensures.takes

pub returns-then-look-clause-agrees : goal.returns-then-look-clause-agrees
returns-then-look-clause-agrees g c = λ before. (c.look.ensures.kept before).agrees

pub returns-clause-agrees : goal.returns-clause-agrees
returns-clause-agrees g c = λ before. (c.look.ensures.kept before).agrees
