use Rattle.negotiate_lines.proofs.OneInstruction.{read_term}
use Rattle.negotiate_lines.proofs.call_term.call_term.Goals as goal

pub returns-in-Some : goal.returns-in-Some
returns-in-Some g c = read_term c.args.form g.V.HasVocabulary.vocabulary c.args.admitted _ _ _ c.in-Some.ensures c.value_of.result c.value_of.ensures
