use Rattle.std.proofs.Common.{rules}
use Rattle.iceoryx2_description.proofs.description.StaticConfig.max_nodes.Goals as goal

pub returns-in-PublishSubscribe-clause-value : goal.returns-in-PublishSubscribe-clause-value
returns-in-PublishSubscribe-clause-value c = search rules
