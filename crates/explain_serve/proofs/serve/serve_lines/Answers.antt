use Rattle.negotiate_serve.specs.declared.ending.ServeError.TheVariants as failure
use Rattle.explain_serve.specs.Answered.{Explains, first_state}
use Rattle.negotiate_serve.specs.Transcripts.{AnswersLineBy}
use Rattle.negotiate_serve.proofs.Answering.{served_nothing}
use Rattle.explain_serve.proofs.Explaining.{serves_explained}
use Rattle.explain_serve.proofs.serve.serve_lines.Goals as goal

pub serve_by-ended-requires : goal.serve_by-ended-requires
serve_by-ended-requires g c = (first_state.machine, c.in-Ok.ensures.2)

pub returns-in-Ok : goal.returns-in-Ok
returns-in-Ok g c = λ bytes known.
    let made = c.in-Ok.ensures in
    let served = c.serve_by-ended.ensures.serves bytes known in (
      served.0,
      serves_explained c.args.format c.in-Ok.explainer c.serve_by-ended.result bytes served.0 (g.W.Write.contents c.args.output.now)
          (g.W.Write.contents c.serve_by-ended.new.output) made.0 made.1 made.2 served.1,
    )

pub returns-in-Err : goal.returns-in-Err
returns-in-Err g c = λ bytes known.
    served_nothing (AnswersLineBy (Explains c.args.format)) first_state bytes failure.OutOfMemory c.write_failure.result (g.W.Write.contents c.args.output.now) (g.W.Write.contents c.write_failure.new.output)
    tt c.write_failure.ensures
