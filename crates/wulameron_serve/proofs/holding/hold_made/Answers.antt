use Rattle.std.proofs.Common.{IfOk, IfErr, string_bytes, subst, ap, ◌∙◌}
use Rattle.iceoryx2_session.specs.SessionStates.{own_state}
use Rattle.iceoryx2_world.specs.World.{World}
use Rattle.wulameron_arguments.specs.declared.asked.Wanted.TheVariants as wanted
use Rattle.wulameron_serve.specs.Holding.{plain}
use Rattle.wulameron_view.specs.Looking.{IsShown, IsUnshown}
use Rattle.wulameron_view.proofs.Printing.{printed_of}
use Rattle.wulameron_serve.proofs.holding.hold_made.Goals as goal

pub returns : goal.returns
returns g c =
    let states = c.args.holding.states.now in
    let which = wanted.Numbered c.args.factory.number in
    let w : World = g.S.WorldStorage.world (own_state c.args.answerer.now.session).table in
    let seen = c.stored.ensures ∙ ap g.S.WorldStorage.world c.storage.ensures in
    record {
      shown = c.print-shown.result;
      prints = printed_of string_bytes (IsShown plain states w which) (IsUnshown w which) c.show_in-text.result c.print-shown.result (g.W.Write.contents c.args.output.now) (g.W.Write.contents c.print-shown.new.output)
          (subst (λ (w : World). IfOk c.show_in-text.result (λ text. IsShown plain states w which (string_bytes text))) seen c.show_in-text.ensures.shown)
          (subst (λ (w : World). IfErr c.show_in-text.result (IsUnshown w which)) seen c.show_in-text.ensures.unshown)
          c.print-shown.ensures.written c.print-shown.ensures.why;
      waited = c.wait-waited.result;
      last = own_state c.wait-waited.new.answerer.session;
      waits = c.wait-waited.ensures;
      closed = c.carry_out-closed.result.reply;
      closes = c.carry_out-closed.ensures.held.0;
      ends = c.ending.ensures;
    }
