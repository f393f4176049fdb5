use Rattle.std.proofs.Common.{string_bytes}
use Rattle.iceoryx2_session.specs.SessionStates.{own_state}
use Rattle.escaped_serve.proofs.Asked.{shows_asked}
use Rattle.escaped_serve.proofs.answerer.TableAnswererAsked.ask.Goals as goal

pub returns-clause-stands : goal.returns-clause-stands
returns-clause-stands c =
    shows_asked (own_state c.args.self.now.session) (own_state c.answer_question.new.session) c.args.question (string_bytes c.args.text.now) (string_bytes c.answer_question.new.text)
    c.answer_question.result c.answer_question.ensures.answered c.answer_question.ensures.kept c.answer_question.ensures.stands
