use Rattle.std.proofs.Common.{◌≡◌, drop}
use Rattle.negotiate_lines.specs.Leaves.{go_on}
use Rattle.negotiate_lines.proofs.leaf.is_whole.Given as goal

abbrev pub invariant-loop-byte : goal.invariant-loop-byte
invariant-loop-byte l = go_on 0 l.leaf ≡ go_on l.digits (drop l.byte-index l.leaf)
