use Rattle.escaped_serve.proofs.OneLine.{abandoned, other_line, plain_line, refusals, replies, shown, told_bytes, told_entries, wrong_line}
use Rattle.escaped_serve.proofs.laws.law_of_one_line.Goals as goal

pub returns-clause-replies : goal.returns-clause-replies
returns-clause-replies c = replies

pub returns-clause-shown : goal.returns-clause-shown
returns-clause-shown c = shown

pub returns-clause-bytes : goal.returns-clause-bytes
returns-clause-bytes c = told_bytes

pub returns-clause-abandoned : goal.returns-clause-abandoned
returns-clause-abandoned c = abandoned

pub returns-clause-entries : goal.returns-clause-entries
returns-clause-entries c = told_entries

pub returns-clause-refusals : goal.returns-clause-refusals
returns-clause-refusals c = refusals

pub returns-clause-others : goal.returns-clause-others
returns-clause-others c = other_line

pub returns-clause-plain : goal.returns-clause-plain
returns-clause-plain c = plain_line

pub returns-clause-wrong : goal.returns-clause-wrong
returns-clause-wrong c = wrong_line
