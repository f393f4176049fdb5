use Rattle.std.proofs.Common.{rules}
use Rattle.iceoryx2_rounds.proofs.retries.retries_create.Goals as goal

pub returns : goal.returns
returns g c = rw (g.met.P.Retries.told c.args.pattern.now) (search rules)
