use Rattle.std.proofs.Common.{append_assoc, ◌∙◌}
use Rattle.iceoryx2_data.proofs.parts.writing.put_optional_deadline.Goals as goal

pub returns-in_ok-put_deadline-in-Some : goal.returns-in_ok-put_deadline-in-Some
returns-in_ok-put_deadline-in-Some c = rw c.in-Some.is (c.in_ok-put_deadline-in-Some.ensures ∙ rw c.in_ok-push-in-Some.ensures.items (simp append_assoc))
