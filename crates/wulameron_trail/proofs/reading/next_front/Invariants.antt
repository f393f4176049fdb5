use Rattle.std.proofs.Common.{ℕ, List}
use Rattle.wulameron_trail.specs.Unread.{IsUnread}
use Rattle.wulameron_trail.proofs.reading.next_front.Given as goal

abbrev pub invariant-loop : goal.invariant-loop
invariant-loop g l = (bytes : List ℕ) → IsUnread l.fn.ahead (g.R.Read.remaining l.fn.reader) bytes → IsUnread l.ahead (g.R.Read.remaining l.reader) bytes
