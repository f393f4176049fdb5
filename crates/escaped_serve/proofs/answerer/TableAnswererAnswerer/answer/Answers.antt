use Rattle.std.proofs.Common.{string_bytes, refl}
use Rattle.iceoryx2_session.specs.SessionStates.{own_state}
use Rattle.negotiate_serve.specs.Replies.{IsReplyText}
use Rattle.escaped_serve.specs.declared.answerer.TableAnswerer.{TableAnswerer}
use Rattle.escaped_serve.proofs.Answering.{answers_reply, shows_some}
use Rattle.escaped_serve.proofs.answerer.TableAnswererAnswerer.answer.Goals as goal

pub returns-clause-answered : goal.returns-clause-answered
returns-clause-answered c = λ stands.
    answers_reply (own_state c.args.self.now.session) (own_state c.apply.new.self) c.args.command c.apply.result c.apply.ensures.quiet c.apply.ensures.stands
    IsReplyText (λ (a : TableAnswerer). own_state a.session) c.args.self.now (record { session = c.apply.new.self }) refl refl
    c.slot_of-slot.result c.args._line.now (string_bytes c.args.text.now) (string_bytes c.describe.new.text) c.slot_of-slot.ensures c.describe.result c.describe.ensures

pub returns-clause-stands : goal.returns-clause-stands
returns-clause-stands c =
    shows_some (own_state c.args.self.now.session) (own_state c.apply.new.self) c.args.command c.apply.result c.apply.ensures.quiet c.apply.ensures.stands
