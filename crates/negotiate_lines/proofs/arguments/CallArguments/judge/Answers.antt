use Rattle.negotiate_lines.proofs.arguments.CallArguments.judge.Goals as goal

pub returns-in-Attribute : goal.returns-in-Attribute
returns-in-Attribute g c = rw c.in-Attribute.is c.judge_pair.ensures
