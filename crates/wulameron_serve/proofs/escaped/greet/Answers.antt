use Rattle.std.proofs.Common.{◌∙◌}
use Rattle.wulameron_serve.proofs.Tellings.{cut_at}
use Rattle.wulameron_serve.proofs.escaped.greet.Goals as goal

pub returns-in-Ok-clause-not : goal.returns-in-Ok-clause-not
returns-in-Ok-clause-not g c =
    cut_at c.args.node c.as_bytes.result.now c.write_out.result (g.W.Write.contents c.args.output.now) (g.W.Write.contents c.write_out.new.output)
    (c.as_bytes.ensures.value ∙ c.in-Ok.ensures) c.write_out.ensures
