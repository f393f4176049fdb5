use Rattle.iceoryx2_journal.proofs.SameWorlds.{one_world}
use Rattle.iceoryx2_journal.proofs.laws.entries.Goals as goal

pub returns : goal.returns
returns c = one_world
