use Rattle.std.proofs.Common.{Ok, Err, refl}
use Rattle.std.proofs.KnownBytes.{Keeps-refl}
use Rattle.wulameron_trail.specs.declared.printing.Rest.TheVariants as rest
use Rattle.wulameron_trail.proofs.Shown.{nothing_shown, entry_shown, entry_stops}
use Rattle.wulameron_trail.proofs.printing.show_found.Goals as goal

pub returns-then-is_mark : goal.returns-then-is_mark
returns-then-is_mark g c = λ left bytes unread begins.
    let before = g.W.Write.contents c.args.output.now in
    nothing_shown g.P.Shows.shows bytes c.args.shown.now c.args.shown.now (Ok (rest.Moved c.args.entry)) before before refl
    (c.args.count, begins, c.is_mark.ensures.0 c.if-is_mark.true, refl) (Keeps-refl before)

pub returns-in-Ok : goal.returns-in-Ok
returns-in-Ok g c = λ left bytes unread begins.
    entry_shown g.P.Shows.shows c.args.ahead.now c.take.new.self left bytes c.args.entry c.args.count c.args.shown.now c.show_entry.new.shown (Ok tt)
    (g.W.Write.contents c.args.output.now) (g.W.Write.contents c.show_entry.new.output) unread begins c.requires c.take.ensures c.in-Ok.ensures refl

pub returns : goal.returns
returns g c = λ left bytes unread begins.
    entry_stops g.P.Shows.shows bytes c.args.entry c.args.count c.args.shown.now c.show_entry.new.shown (Err c.in-Err.stop) c.in-Err.stop
    (g.W.Write.contents c.args.output.now) (g.W.Write.contents c.show_entry.new.output) begins c.in-Err.ensures refl
