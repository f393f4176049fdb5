use Rattle.wulameron_serve.proofs.EscapedWords as escaped
use Rattle.wulameron_serve.proofs.words.laws_of_words.Goals as goal

pub returns-clause-leaf : goal.returns-clause-leaf
returns-clause-leaf c = escaped.leaf

pub returns-clause-part : goal.returns-clause-part
returns-clause-part c = escaped.part

pub returns-clause-cut : goal.returns-clause-cut
returns-clause-cut c = escaped.cut

pub returns-clause-term : goal.returns-clause-term
returns-clause-term c = escaped.term

pub returns-clause-some : goal.returns-clause-some
returns-clause-some c = escaped.some
