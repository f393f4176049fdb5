use Rattle.std.proofs.Common.{List, ℕ, subst, ap, sym, ◌∙◌}
use Rattle.iceoryx2_postgres_log.specs.Questions as text
use Rattle.iceoryx2_postgres_log.specs.Hearing.{TellsOpened, IsOpened}
use Rattle.iceoryx2_postgres_log.proofs.postgres_log.PostgresLog.find_again.Goals as goal

pub returns-in-Ok-clause-ok : goal.returns-in-Ok-clause-ok
returns-in-Ok-clause-ok g c = record {
  between = g.W.Write.contents c.ask_opened.new.questions;
  heard = g.R.Read.remaining c.ask_opened.new.replies;
  opened = subst (λ (q : List ℕ). IsOpened q c.in-Some.start (g.W.Write.contents c.args.self.now.questions)
      (g.W.Write.contents c.ask_opened.new.questions) (g.R.Read.remaining c.args.self.now.replies)
      (g.R.Read.remaining c.ask_opened.new.replies))
      (c.as_bytes.ensures.value ∙ c.in_ok-question.ensures ∙ ap text.reopening c.deref.ensures)
      (subst (TellsOpened c.as_bytes.result.now (g.W.Write.contents c.args.self.now.questions)
      (g.W.Write.contents c.ask_opened.new.questions) (g.R.Read.remaining c.args.self.now.replies)
      (g.R.Read.remaining c.ask_opened.new.replies)) c.in-Some.is c.in_ok-found.ensures);
  later = sym c.is_later.ensures ∙ c.if-not-is_later.false;
  look = c.in-Ok.ensures.ok;
}
