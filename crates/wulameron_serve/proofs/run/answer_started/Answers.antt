use Rattle.std.proofs.Common.{ℕ, subst}
use Rattle.iceoryx2_session.specs.SessionStates.{own_state}
use Rattle.wulameron_serve.specs.Served.{Serves, serving}
use Rattle.wulameron_serve.proofs.run.answer_started.Goals as goal

pub returns : goal.returns
returns g c = λ bytes known.
    let answerer = c.in_ok-answerer.answerer in
    serving (record {
      first = own_state answerer.session;
      cleaned = c.in_ok-answerer.ensures.shows;
      served = c.answer_input-served.result.0;
      left = c.answer_input-served.result.1;
      settles_last = c.settle_end.ensures;
      serves = subst (λ (k : ℕ). Serves g.S.WorldStorage.settles g.S.WorldStorage.shows g.S.WorldStorage.spans g.S.Storage.step g.S.WorldStorage.world g.S.Troubled.trouble g.S.Viewed.writes g.S.Viewed.ending k c.args.wrong_lines
          (own_state answerer.session) c.answer_input-served.result.0 c.answer_input-served.result.1 bytes
          (g.W.Write.contents c.args.output.now) (g.W.Write.contents c.answer_input-served.new.output)) c.in_ok-answerer.ensures.node (c.answer_input-served.ensures bytes known);
    })
