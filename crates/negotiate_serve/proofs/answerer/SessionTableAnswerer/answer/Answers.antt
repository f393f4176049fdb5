use Rattle.std.proofs.Common.{string_bytes}
use Rattle.negotiate_serve.proofs.Shown.{shows_some, answers_reply}
use Rattle.negotiate_serve.proofs.answerer.SessionTableAnswerer.answer.Goals as goal

pub returns-clause-answered : goal.returns-clause-answered
returns-clause-answered c = λ stands.
    answers_reply c.args.self.now c.apply.new.self c.args.command c.apply.result c.apply.ensures.quiet c.apply.ensures.stands c.apply.ensures.owns
    c.slot_of-slot.result c.args._line.now (string_bytes c.args.text.now) (string_bytes c.describe.new.text) c.slot_of-slot.ensures c.describe.result c.describe.ensures

pub returns-clause-stands : goal.returns-clause-stands
returns-clause-stands c =
    shows_some c.args.self.now c.apply.new.self c.args.command c.apply.result c.apply.ensures.quiet c.apply.ensures.stands c.apply.ensures.owns
