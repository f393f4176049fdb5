use Rattle.std.proofs.Common.{List, ℕ, subst, ap, ◌∙◌}
use Rattle.iceoryx2_postgres_log.specs.Questions as text
use Rattle.iceoryx2_postgres_log.specs.Hearing.{TellsOpened, IsOpened}
use Rattle.iceoryx2_postgres_log.proofs.postgres_log.PostgresLog.open.Goals as goal

pub returns-in-Ok-Some-clause-opens : goal.returns-in-Ok-Some-clause-opens
returns-in-Ok-Some-clause-opens g c =
    subst (λ (q : List ℕ). IsOpened q c.in-Ok-Some.at (g.W.Write.contents c.args.questions) (g.W.Write.contents c.ask_opened.new.questions)
    (g.R.Read.remaining c.args.replies) (g.R.Read.remaining c.ask_opened.new.replies))
    (c.as_bytes.ensures.value ∙ c.in_ok-question.ensures
    ∙ ap (text.opening c.args.name.now c.args.makes) c.lock_wait.ensures)
    (subst (TellsOpened c.as_bytes.result.now (g.W.Write.contents c.args.questions) (g.W.Write.contents c.ask_opened.new.questions)
    (g.R.Read.remaining c.args.replies) (g.R.Read.remaining c.ask_opened.new.replies)) c.in-Ok-Some.field-0-is c.in-Ok-Some.ensures)
