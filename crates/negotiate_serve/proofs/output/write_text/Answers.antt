use Rattle.std.proofs.lemmas.List.{take_rest}
use Rattle.negotiate_serve.proofs.Written.{taken_more, nothing_taken}
use Rattle.negotiate_serve.proofs.output.write_text.Goals as goal

pub loop-rest-init : goal.loop-rest-init
loop-rest-init g c = nothing_taken c.args.text.now _

pub loop-rest-preserved : goal.loop-rest-preserved
loop-rest-preserved g c =
    taken_more c.args.text.now c.loop-rest.rest.now _ (g.W.Write.contents c.args.output.now) (g.W.Write.contents c.loop-rest.output) (g.W.Write.contents c.write_front.new.output)
    c.in_ok-count.count c.loop-rest.invariant c.in_ok-count.ensures.2 (take_rest c.loop-rest.rest.now c.in_ok-count.count)
