use Rattle.std.proofs.Common.{refl}
use Rattle.wulameron_c.specs.Pointers.{closed, not_open}
use Rattle.wulameron_c.proofs.wulameron_c_close_session.Goals as goal

pub returns-in_default-clause-closes : goal.returns-in_default-clause-closes
returns-in_default-clause-closes c = rw c.in_default.ensures.mark (rw (c.in_default.ensures.none refl).1 (not_open (c.in_default.ensures.none refl).0))

pub returns-clause-closes : goal.returns-clause-closes
returns-clause-closes c = rw c.in-Some.ensures.some.2 (closed c.in-Some.ensures.some.0)
