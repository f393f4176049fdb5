use Rattle.std.proofs.Common.{rules}
use Rattle.iceoryx2_types.proofs.types.has_name_length.Goals as goal

pub returns-then-name-ge-MIN_TYPE_NAME_LENGTH : goal.returns-then-name-ge-MIN_TYPE_NAME_LENGTH
returns-then-name-ge-MIN_TYPE_NAME_LENGTH c = search rules
