use Rattle.negotiate_lines.proofs.Around.{found_around}
use Rattle.negotiate_lines.proofs.term.around.Goals as goal

pub returns : goal.returns
returns c = found_around c.args.separator c.args.term.now c.split_once.result c.requires c.split_once.ensures.cases
