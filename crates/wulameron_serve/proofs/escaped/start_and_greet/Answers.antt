use Rattle.std.proofs.Common.{ℕ, subst}
use Rattle.wulameron_serve.specs.Served.{ServesJournal, not_started, starts}
use Rattle.wulameron_serve.proofs.escaped.start_and_greet.Goals as goal

pub returns-in-Ok-cleaned : goal.returns-in-Ok-cleaned
returns-in-Ok-cleaned g c = λ bytes known.
    let answerer = c.in-Ok-cleaned.answerer in
    let named = c.in-Ok-cleaned.ensures.node in
    starts answerer (record { journal = c.in-Ok.journal; started = c.in-Ok.ensures.ok; named = named; cleaned = c.in-Ok-cleaned.ensures.shows })
    (subst (λ (n : ℕ). ServesJournal g.L.Log.contents g.L.Log.held g.L.Refusing.refused c.args.log.log c.args.log.counter n answerer c.greet_and_answer.result bytes
    (g.W.Write.contents c.args.output.now) (g.W.Write.contents c.greet_and_answer.new.output)) named (c.greet_and_answer.ensures bytes known))

pub returns-in-Err-cleaned : goal.returns-in-Err-cleaned
returns-in-Err-cleaned g c = λ bytes known.
    let told = c.refuse_start.ensures.told in
    not_started c.in-Err-cleaned.halt told.0 c.in-Err-cleaned.ensures.err told.1 told.2 c.refuse_start.ensures.status

pub returns-in-Err : goal.returns-in-Err
returns-in-Err g c = λ bytes known.
    let told = c.refuse_start-in-Err.ensures.told in
    not_started c.in-Err.halt told.0 c.in-Err.ensures.err told.1 told.2 c.refuse_start-in-Err.ensures.status
