use Rattle.std.proofs.Common.{append_assoc}
use Rattle.iceoryx2_data.proofs.bytes.writing.put_event.Goals as goal

pub returns : goal.returns
returns c = rw (c.in_ok-put_optional_deadline.ensures, c.in_ok-put_id-3.ensures, c.in_ok-put_id-2.ensures, c.in_ok-put_id.ensures, c.in_ok-put_number-4.ensures, c.in_ok-put_number-3.ensures, c.in_ok-put_number-2.ensures, c.in_ok-put_number.ensures, c.in_ok-push.ensures.items) (simp append_assoc)
