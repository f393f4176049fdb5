use Rattle.std.proofs.Common.{rules}
use Rattle.iceoryx2_access.proofs.storage.Sha1HasherServiceNameHasher.hash.Goals as goal

pub returns : goal.returns
returns c = search rules
