use Rattle.std.proofs.Common.{refl}
use Rattle.iceoryx2_journal.specs.Taking.{astray}
use Rattle.iceoryx2_journal.proofs.Takes.{takes_some}
use Rattle.iceoryx2_journal.proofs.snapshot.advance.Goals as goal

pub returns-else-is_same-clause-takes : goal.returns-else-is_same-clause-takes
returns-else-is_same-clause-takes c = takes_some c.in_ok-advance_all.ensures.0 (astray refl refl refl) refl
