use Rattle.std.proofs.Common.{string_bytes, refl}
use Rattle.iceoryx2_session.specs.SessionStates.{own_state}
use Rattle.escaped_serve.specs.Replies.{IsEscapedReply}
use Rattle.escaped_serve.specs.declared.answerer.TableAnswerer.{TableAnswerer}
use Rattle.escaped_serve.proofs.Answering.{answers_reply, shows_some}
use Rattle.escaped_serve.proofs.answerer.TableAnswererAsked.answer_escaped.Goals as goal

pub returns-clause-answered : goal.returns-clause-answered
returns-clause-answered c = λ stands.
    answers_reply (own_state c.args.self.now.session) (own_state c.apply.new.self) c.args.command c.apply.result c.apply.ensures.quiet c.apply.ensures.stands
    IsEscapedReply (λ (a : TableAnswerer). own_state a.session) c.args.self.now (record { session = c.apply.new.self }) refl refl
    c.slot_of-slot.result c.args._line.now (string_bytes c.args.text.now) (string_bytes c.describe_escaped.new.text) c.slot_of-slot.ensures c.describe_escaped.result c.describe_escaped.ensures

pub returns-clause-stands : goal.returns-clause-stands
returns-clause-stands c =
    shows_some (own_state c.args.self.now.session) (own_state c.apply.new.self) c.args.command c.apply.result c.apply.ensures.quiet c.apply.ensures.stands
