use Rattle.std.proofs.Common.{◌∙◌}
use Rattle.iceoryx2_session.specs.SessionStates.{own_state}
use Rattle.wulameron_serve.proofs.asked.NodeAnswererAsked.ask.Goals as goal

pub returns-clause-answered : goal.returns-clause-answered
returns-clause-answered g c = λ before.
    let grows = c.in_ok-ask_alone.ensures.answered in (
      grows.0,
      (
        c.go_on_unless.ensures.node ∙ c.ask_alone.ensures.node ∙ c.settle.ensures.node ∙ c.look.ensures.node,
        record {
          shown = own_state c.look.new.self.session;
          looks = c.look.ensures.shows;
          settled = own_state c.settle.new.self.session;
          gives = c.settle.ensures.gives;
          answered = own_state c.ask_alone.new.self.session;
          answers = grows.1;
          goes_on = c.go_on_unless.ensures.gives;
        },
      ),
      grows.2,
    )
