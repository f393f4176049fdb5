use Rattle.iceoryx2_table.proofs.States.{looks}
use Rattle.iceoryx2_table.proofs.table.TableOverStorage.exists.Goals as goal

pub returns : goal.returns
returns g c =
    let is = looks _ c.self.view_is c.run_batch.ensures c.exists.ensures in
    record { part = is.part; agrees = is.agrees; later = is.later }
