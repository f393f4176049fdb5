use Rattle.std.proofs.Common.{string_bytes, refl, sym, subst}
use Rattle.iceoryx2_session.specs.SessionStates.{own_state}
use Rattle.negotiate_lines.specs.declared.question.Question.{Question}
use Rattle.wulameron_serve.specs.Asked.{AsksFor}
use Rattle.wulameron_serve.specs.Cleaning.{RehearsesAsked}
use Rattle.wulameron_serve.proofs.NodeAnswers.{grows_as}
use Rattle.wulameron_serve.proofs.answerer.NodeAnswerer.ask_alone.Goals as goal

pub returns-in-Rehearse-clause-answered : goal.returns-in-Rehearse-clause-answered
returns-in-Rehearse-clause-answered g c =
    let old = own_state c.args.self.now.session in
    grows_as (RehearsesAsked c.in-Rehearse.node) (λ output. AsksFor g.S.WorldStorage.shows g.S.WorldStorage.world g.S.Troubled.trouble old c.args.question.now output old)
    (λ output is. subst (λ (q : Question). AsksFor g.S.WorldStorage.shows g.S.WorldStorage.world g.S.Troubled.trouble old q output old) (sym c.in-Rehearse.is) (refl, is))
    c.answer_rehearse.result (string_bytes c.args.text.now) (string_bytes c.answer_rehearse.new.text) c.answer_rehearse.ensures
