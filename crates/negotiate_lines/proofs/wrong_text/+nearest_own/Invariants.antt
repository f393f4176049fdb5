use Rattle.std.proofs.Common.{length}
use Rattle.negotiate_lines.proofs.wrong_text.+nearest_own.Given as goal

abbrev pub decreases-nearest_own : goal.decreases-nearest_own
decreases-nearest_own l = length l.settings.now
