use Rattle.std.proofs.Common.{List, ℕ, false, string_bytes, subst, ap, ◌∙◌}
use Rattle.iceoryx2_postgres_log.specs.Questions as text
use Rattle.iceoryx2_postgres_log.specs.Hearing.{TellsOpened, IsOpened}
use Rattle.iceoryx2_postgres_log.proofs.postgres_log.PostgresLog.again.Goals as goal

pub returns-else-not-is_still-clause-opens : goal.returns-else-not-is_still-clause-opens
returns-else-not-is_still-clause-opens g c =
    let still = c.is_still.ensures.still c.if-not-is_still.false in record {
      start = c.in-Ok-Some.start;
      opened = subst (λ (q : List ℕ). IsOpened q c.in-Ok-Some.start (g.W.Write.contents c.args.questions)
          (g.W.Write.contents c.ask_opened.new.questions) (g.R.Read.remaining c.args.replies)
          (g.R.Read.remaining c.ask_opened.new.replies))
          (c.as_bytes.ensures.value ∙ c.in_ok-question.ensures
          ∙ ap (λ (n : List ℕ). text.opening n false c.lock_wait.result) (c.deref.ensures ∙ c.in_ok-name.ensures.cases)
          ∙ ap (text.opening (string_bytes c.args.self.now.name) false) c.lock_wait.ensures)
          (subst (TellsOpened c.as_bytes.result.now (g.W.Write.contents c.args.questions)
          (g.W.Write.contents c.ask_opened.new.questions) (g.R.Read.remaining c.args.replies)
          (g.R.Read.remaining c.ask_opened.new.replies)) c.in-Ok-Some.field-0-is c.in-Ok-Some.ensures);
      same = still.0;
      reached = still.1;
    }
