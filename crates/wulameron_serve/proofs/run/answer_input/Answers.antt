use Rattle.iceoryx2_session.specs.SessionStates.{own_state}
use Rattle.wulameron_serve.specs.Lines.{seen_as}
use Rattle.wulameron_serve.proofs.NodeAnswers.{serves_for}
use Rattle.std.proofs.Common.{refl}
use Rattle.wulameron_serve.proofs.run.answer_input.Goals as goal

pub returns : goal.returns
returns g c = λ bytes known.
    let served = c.answer_until-ended.ensures.serves bytes known in
    record {
      unread = served.0;
      serves = serves_for g.S.WorldStorage.settles g.S.WorldStorage.shows g.S.WorldStorage.spans g.S.Storage.step g.S.WorldStorage.world g.S.Troubled.trouble g.S.Viewed.writes g.S.Viewed.ending c.args.answerer.node c.args.wrong_lines
          c.args.answerer (seen_as c.answer_until-ended.result) bytes served.0 (g.W.Write.contents c.args.output.now) (g.W.Write.contents c.answer_until-ended.new.output) refl served.1;
      may_end = c.answer_until-ended.ensures.may_end;
      last = own_state c.answer_until-ended.new.answerer.session;
      closed = c.finish.ensures.closes;
      agrees = c.finish.ensures.agrees c.answer_until-ended.ensures.stands;
    }
