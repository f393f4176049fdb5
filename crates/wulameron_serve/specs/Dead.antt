-- Which replies may come of a dead node.
use Rattle.std.specs.Prelude.{Bool, false}
use Rattle.iceoryx2_builder.specs.declared.command.Reply.{Reply}
use Rattle.iceoryx2_builder.specs.declared.command.Reply.TheVariants as reply
use Rattle.iceoryx2_errors.specs.Reasons.{may_be_a_dead_node, reason_of}

abbrev pub is_blocked : Reply → Bool
is_blocked (reply.Refused r) = may_be_a_dead_node (reason_of r)
is_blocked _ = false
