use Rattle.std.proofs.Common.{rules}
use Rattle.iceoryx2_table.proofs.table.TableOver.counter.Goals as goal

pub returns : goal.returns
returns g c = search rules
