use Rattle.std.proofs.Common.{length}
use Rattle.negotiate_lines.proofs.wrong_terms.+kind_in.Given as goal

abbrev pub decreases-kind_in : goal.decreases-kind_in
decreases-kind_in l = length l.settings.now
