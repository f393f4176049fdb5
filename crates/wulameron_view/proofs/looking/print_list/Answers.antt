use Rattle.std.proofs.Common.{IfOk, IfErr, string_bytes, refl, subst}
use Rattle.iceoryx2_world.specs.World.{World}
use Rattle.wulameron_view.specs.Looking.{IsListed, NeverUnshown, read, unread}
use Rattle.wulameron_view.proofs.Printing.{printed_of}
use Rattle.wulameron_view.proofs.looking.print_list.Goals as goal

pub returns-then-not-take_over : goal.returns-then-not-take_over
returns-then-not-take_over g c = unread c.if-not-take_over.ensures (refl, refl)

pub returns : goal.returns
returns g c =
    let w : World = c.take_over.new.journal.world in
    read c.if-not-take_over.ensures
    (printed_of string_bytes (IsListed c.args.listed c.args.states.now w) (NeverUnshown w) c.list_in.result c.print.result (g.W.Write.contents c.args.output.now) (g.W.Write.contents c.print.new.output)
    (subst (λ (w : World). IfOk c.list_in.result (λ text. IsListed c.args.listed c.args.states.now w (string_bytes text))) c.world.ensures c.list_in.ensures.listed)
    (subst (λ (w : World). IfErr c.list_in.result (NeverUnshown w)) c.world.ensures c.list_in.ensures.unlisted)
    c.print.ensures.written c.print.ensures.why)
