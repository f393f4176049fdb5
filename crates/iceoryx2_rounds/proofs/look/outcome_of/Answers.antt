use Rattle.std.proofs.Common.{inl, inr}
use Rattle.iceoryx2_rounds.specs.Looks.{gone, not_finalized, not_opened, not_read, not_fetched}
use Rattle.iceoryx2_rounds.proofs.look.outcome_of.Goals as goal

pub returns-in-DoesNotExist : goal.returns-in-DoesNotExist
returns-in-DoesNotExist g c = rw (c.in-Err.is, c.in-DoesNotExist.is) gone

pub returns-in-NotFinalized : goal.returns-in-NotFinalized
returns-in-NotFinalized g c = rw (c.in-Err.is, c.in-NotFinalized.is) not_finalized

pub returns-in-OpenFault : goal.returns-in-OpenFault
returns-in-OpenFault g c = rw c.in-Err.is (elim c.in-OpenFault.is [
  | inl e ↦ rw e not_opened
  | inr e ↦ rw e not_read
])

pub returns-in-OutOfMemory : goal.returns-in-OutOfMemory
returns-in-OutOfMemory g c = rw (c.in-Err.is, c.in-OutOfMemory.is) not_fetched
