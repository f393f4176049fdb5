use Rattle.std.specs.declared.alloc.AllocError.{AllocError}
use Rattle.iceoryx2_file_log.proofs.Fronts.{front_is}
use Rattle.iceoryx2_file_log.proofs.bytes.front_at.Goals as goal

pub returns-in_default : goal.returns-in_default
returns-in_default g c = record {
  reading = c.loop.invariant.1;
  reads = c.loop.invariant.0;
  front = front_is AllocError c.loop.cursor c.ahead.result.now c.left.result c.in-Ok.front c.ahead.ensures c.left.ensures
      (record { whole = c.in-Ok.ensures.whole; only = c.in-Ok.ensures.only; torn = c.in-Ok.ensures.torn }) c.in_default.not-Unfinished;
  same = c.loop.invariant.2;
}
