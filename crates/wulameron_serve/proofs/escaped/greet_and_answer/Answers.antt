use Rattle.std.proofs.Common.{ℕ, Ok, refl, subst}
use Rattle.negotiate_serve.specs.Outputs.{Writes}
use Rattle.wulameron_serve.specs.Served.{NotGreeted, greeted, not_greeted}
use Rattle.wulameron_serve.specs.Telling.{greeting_of}
use Rattle.wulameron_serve.proofs.escaped.greet_and_answer.Goals as goal

pub returns-in-Ok : goal.returns-in-Ok
returns-in-Ok g c = λ bytes known.
    let old = g.W.Write.contents c.args.output.now in
    let mid = g.W.Write.contents c.greet.new.output in
    greeted mid (subst (λ (k : ℕ). Writes (greeting_of k) (Ok tt) old mid) c.node.ensures c.in-Ok.ensures.greeted) (c.answer_greeted.ensures bytes known)

pub returns-in-Err : goal.returns-in-Err
returns-in-Err g c = λ bytes known.
    not_greeted (subst (λ (k : ℕ). NotGreeted k (g.W.Write.contents c.args.output.now) (g.W.Write.contents c.greet.new.output)) c.node.ensures c.in-Err.ensures.not) refl
