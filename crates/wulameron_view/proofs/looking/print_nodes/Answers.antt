use Rattle.std.proofs.Common.{IfOk, IfErr, string_bytes, refl, subst}
use Rattle.iceoryx2_world.specs.World.{World}
use Rattle.wulameron_view.specs.Looking.{NeverUnshown, read, unread}
use Rattle.wulameron_view.specs.Nodes.{AreNodes}
use Rattle.wulameron_view.proofs.Printing.{printed_of}
use Rattle.wulameron_view.proofs.looking.print_nodes.Goals as goal

pub returns-then-not-take_over : goal.returns-then-not-take_over
returns-then-not-take_over g c = unread c.if-not-take_over.ensures (refl, refl)

pub returns : goal.returns
returns g c =
    let w : World = c.take_over.new.journal.world in
    read c.if-not-take_over.ensures
    (printed_of string_bytes (AreNodes c.args.shown c.args.states.now w) (NeverUnshown w) c.nodes_in.result c.print.result (g.W.Write.contents c.args.output.now) (g.W.Write.contents c.print.new.output)
    (subst (λ (w : World). IfOk c.nodes_in.result (λ text. AreNodes c.args.shown c.args.states.now w (string_bytes text))) c.world.ensures c.nodes_in.ensures.nodes)
    (subst (λ (w : World). IfErr c.nodes_in.result (NeverUnshown w)) c.world.ensures c.nodes_in.ensures.unlisted)
    c.print.ensures.written c.print.ensures.why)
