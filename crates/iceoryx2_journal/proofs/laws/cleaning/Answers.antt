use Rattle.iceoryx2_journal.proofs.Cleaned.{holds_nothing, in_its_name, spares_others}
use Rattle.iceoryx2_journal.proofs.laws.cleaning.Goals as goal

pub returns-clause-holds_nothing : goal.returns-clause-holds_nothing
returns-clause-holds_nothing g c = holds_nothing

pub returns-clause-names : goal.returns-clause-names
returns-clause-names g c = in_its_name g.L.Log.contents

pub returns-clause-spares : goal.returns-clause-spares
returns-clause-spares g c = spares_others
