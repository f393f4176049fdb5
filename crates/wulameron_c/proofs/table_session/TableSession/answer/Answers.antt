use Rattle.std.proofs.Common.{◌∙◌}
use Rattle.wulameron_c.specs.TableSessions.{TableLines}
use Rattle.wulameron_c.proofs.Replying.{replied}
use Rattle.wulameron_c.proofs.table_session.TableSession.answer.Goals as goal

pub returns-clause-answered : goal.returns-clause-answered
returns-clause-answered c = λ stands.
    replied TableLines c.in_ok-answer_line.field-0 _ 1 c.args.line.now _ _ _ c.in_ok-answer_line.ensures.ends
    (c.reserve.ensures.bytes ∙ c.clear.ensures.bytes) (c.in_ok-answer_line.ensures.answered stands)
