use Rattle.std.proofs.Common.{◌≡◌, length}
use Rattle.iceoryx2_rounds.specs.Requested.{no_types}
use Rattle.explain_serve.specs.Messages.{sample_builder_after}
use Rattle.explain_serve.proofs.settings.publish_subscribe.asked_message.Given as goal

abbrev pub invariant-loop-setter : goal.invariant-loop-setter
invariant-loop-setter l = (sample_builder_after l.types l.left).types ≡ (sample_builder_after no_types l.setters).types

abbrev pub decreases-loop-setter : goal.decreases-loop-setter
decreases-loop-setter l = length l.left
