use Rattle.iceoryx2_session.specs.SessionStates.{own_state}
use Rattle.wulameron_serve.proofs.escaped.answer_escaped_input.Goals as goal

pub returns : goal.returns
returns g c = λ bytes known.
    let served = c.answer_until-ended.ensures.serves bytes known in
    record {
      unread = served.0;
      serves = served.1;
      may_end = c.answer_until-ended.ensures.may_end;
      last = own_state c.answer_until-ended.new.answerer.session;
      closed = c.finish.ensures.closes;
      agrees = c.finish.ensures.agrees c.answer_until-ended.ensures.stands;
    }
