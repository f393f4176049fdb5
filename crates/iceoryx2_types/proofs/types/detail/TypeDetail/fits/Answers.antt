use Rattle.std.proofs.Common.{rules}
use Rattle.iceoryx2_types.proofs.types.detail.TypeDetail.fits.Goals as goal

pub returns-then-size-clause-exact : goal.returns-then-size-clause-exact
returns-then-size-clause-exact c = search rules

pub returns-then-size-clause-value : goal.returns-then-size-clause-value
returns-then-size-clause-value c = search rules
