use Rattle.std.proofs.Common.{length}
use Rattle.negotiate_lines.proofs.wrong_text.+nearest_of.Given as goal

abbrev pub decreases-nearest_of : goal.decreases-nearest_of
decreases-nearest_of l = length l.words.now
