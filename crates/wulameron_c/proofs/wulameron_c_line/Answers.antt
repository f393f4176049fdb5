use Rattle.std.proofs.Common.{refl}
use Rattle.wulameron_c.specs.Pointers.{acted, not_open}
use Rattle.wulameron_c.proofs.wulameron_c_line.Goals as goal

pub returns-in_default-clause-acts : goal.returns-in_default-clause-acts
returns-in_default-clause-acts c = not_open (c.in_default.ensures.none refl).0 refl (c.in_default.ensures.none refl).1 (refl, refl)

pub returns-clause-acts : goal.returns-clause-acts
returns-clause-acts c = acted c.in-Some.ensures.some.0 c.in-Some.ensures.some.1 c.put.ensures.held (rw c.deref_mut.ensures.value at c.answer_into-code.ensures)
