use Rattle.std.proofs.Common.{All}
use Rattle.std.specs.Io.KnownBytes.{Consumes}
use Rattle.iceoryx2_postgres_log.specs.Replies.{told, IsRowBefore}
use Rattle.iceoryx2_postgres_log.proofs.reply.read_reply.Given as goal

abbrev pub invariant-loop-round : goal.invariant-loop-round
invariant-loop-round g l = record {
  bytes : Consumes (g.R.Read.remaining l.fn.replies) (g.R.Read.remaining l.replies) (told l.rows.items);
  rows : All (IsRowBefore l.mark) l.rows.items;
}
