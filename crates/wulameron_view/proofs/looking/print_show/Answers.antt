use Rattle.std.proofs.Common.{IfOk, IfErr, string_bytes, refl, subst}
use Rattle.iceoryx2_world.specs.World.{World}
use Rattle.wulameron_view.specs.Looking.{IsShown, IsUnshown, read, unread}
use Rattle.wulameron_view.proofs.Printing.{printed_of}
use Rattle.wulameron_view.proofs.looking.print_show.Goals as goal

pub returns-then-not-take_over : goal.returns-then-not-take_over
returns-then-not-take_over g c = unread c.if-not-take_over.ensures (refl, refl)

pub returns : goal.returns
returns g c =
    let w : World = c.take_over.new.journal.world in
    read c.if-not-take_over.ensures
    (printed_of string_bytes (IsShown c.args.shown c.args.states.now w c.args.wanted) (λ why. IsUnshown w c.args.wanted why) c.show_in.result c.print.result (g.W.Write.contents c.args.output.now) (g.W.Write.contents c.print.new.output)
    (subst (λ (w : World). IfOk c.show_in.result (λ text. IsShown c.args.shown c.args.states.now w c.args.wanted (string_bytes text))) c.world.ensures c.show_in.ensures.shown)
    (subst (λ (w : World). IfErr c.show_in.result (λ why. IsUnshown w c.args.wanted why)) c.world.ensures c.show_in.ensures.unshown)
    c.print.ensures.written c.print.ensures.why)
