use Rattle.std.proofs.Common.{◌≡◌, length}
use Rattle.iceoryx2_request_response_builder.specs.Builder.{no_message_types}
use Rattle.explain_serve.specs.Messages.{request_builder_after}
use Rattle.explain_serve.proofs.settings.request_response.asked_types.Given as goal

abbrev pub invariant-loop-setter : goal.invariant-loop-setter
invariant-loop-setter l = (request_builder_after l.types l.left).types ≡ (request_builder_after no_message_types l.setters).types

abbrev pub decreases-loop-setter : goal.decreases-loop-setter
decreases-loop-setter l = length l.left
