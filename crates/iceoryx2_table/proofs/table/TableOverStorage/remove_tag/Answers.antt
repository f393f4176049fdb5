use Rattle.iceoryx2_table.proofs.States.{takes}
use Rattle.iceoryx2_table.proofs.table.TableOverStorage.remove_tag.Goals as goal

pub returns : goal.returns
returns g c =
    let is = takes _ c.self.view_is c.run_batch.ensures c.remove_tag.ensures in
    record { part = is.part; agrees = is.agrees; later = is.later }
