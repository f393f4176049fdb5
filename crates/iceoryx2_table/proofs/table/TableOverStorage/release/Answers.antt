use Rattle.iceoryx2_table.proofs.States.{takes}
use Rattle.iceoryx2_table.proofs.table.TableOverStorage.release.Goals as goal

pub returns : goal.returns
returns g c =
    let is = takes _ c.self.view_is c.run_batch.ensures c.release.ensures in
    record { part = is.part; agrees = is.agrees; later = is.later }
