use Rattle.std.proofs.Common.{ℕ, append-nil, sym, subst, ◌∙◌}
use Rattle.negotiate_lines.specs.declared.leaf.Form.TheVariants as form
use Rattle.iceoryx2_session.specs.SessionStates.{own_state}
use Rattle.wulameron_serve.specs.Shared.{AnswersFor}
use Rattle.wulameron_serve.specs.Views.{writes_in}
use Rattle.wulameron_serve.proofs.NodeAnswers.{renamed}
use Rattle.wulameron_serve.proofs.asked.NodeAnswererAsked.answer_escaped.Goals as goal

pub returns-clause-answered : goal.returns-clause-answered
returns-clause-answered g c = λ before.
    let W = g.S.WorldStorage.world in
    let O = g.S.WorldStorage.own in
    let R = g.S.Viewed.ready in
    let line = c.args.line.now in
    let shown = own_state c.look.new.self.session in
    let settled = own_state c.settle.new.self.session in
    let answered = own_state c.answer_alone.new.self.session in
    let shown_stands = renamed W O R (sym c.look.ensures.node) shown (c.look.ensures.stands before) in
    let named = c.settle.ensures.node ∙ c.look.ensures.node in
    let grows = c.in_ok-answer_alone.ensures.answered (renamed W O R (sym c.settle.ensures.node) settled (c.settle.ensures.stands shown_stands)) in
    record {
      output = grows.0;
      is_answer = (
        c.go_on_unless.ensures.node ∙ c.answer_alone.ensures.node ∙ named,
        record {
          shown = shown;
          looks = c.look.ensures.shows;
          settled = settled;
          gives = c.settle.ensures.gives;
          answered = answered;
          output = grows.0;
          answers = subst (λ (n : ℕ). AnswersFor form.Escaped g.S.WorldStorage.shows g.S.WorldStorage.spans g.S.Storage.step W (writes_in form.Escaped g.S.Viewed.writes) n line settled c.args.command grows.0 answered) named grows.1;
          are = sym (append-nil grows.0);
          goes_on = c.go_on_unless.ensures.gives;
        },
      );
      grown = grows.2;
    }
