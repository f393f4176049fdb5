use Rattle.std.proofs.Common.{Err}
use Rattle.wulameron_trail.proofs.Shown.{nothing_yet, turn_goes_on, turn_ends, it_ends, reading_stops}
use Rattle.wulameron_trail.proofs.printing.show_rest.Goals as goal

pub loop-init : goal.loop-init
loop-init g c = λ bytes is.
    nothing_yet g.P.Shows.shows bytes c.args.shown.now c.new-ahead.result (g.R.Read.remaining c.args.reader.now) (g.W.Write.contents c.args.output.now) c.new-ahead.ensures is

pub loop-preserved : goal.loop-preserved
loop-preserved g c = λ bytes is.
    let a = c.loop.invariant bytes is in
    turn_goes_on g.P.Shows.shows bytes c.args.shown.now c.loop.shown c.show_next.new.shown c.loop.ahead c.show_next.new.ahead
    (g.R.Read.remaining c.loop.reader) (g.R.Read.remaining c.show_next.new.reader)
    (g.W.Write.contents c.args.output.now) (g.W.Write.contents c.loop.output) (g.W.Write.contents c.show_next.new.output)
    c.in-Ok.turn c.in-Continue.count a c.in-Continue.is (c.in-Ok.ensures a.remaining a.unread)

pub returns-in-Break : goal.returns-in-Break
returns-in-Break g c = λ bytes is.
    let a = c.loop.invariant bytes is in
    turn_ends g.P.Shows.shows bytes c.args.shown.now c.loop.shown c.show_next.new.shown c.loop.ahead c.show_next.new.ahead
    (g.R.Read.remaining c.loop.reader) (g.R.Read.remaining c.show_next.new.reader)
    (g.W.Write.contents c.args.output.now) (g.W.Write.contents c.loop.output) (g.W.Write.contents c.show_next.new.output)
    c.in-Ok.turn c.in-Break.rest a c.in-Break.is (c.in-Ok.ensures a.remaining a.unread)

pub returns-in-Err : goal.returns-in-Err
returns-in-Err g c = λ bytes is.
    let a = c.loop.invariant bytes is in
    it_ends g.P.Shows.shows bytes c.args.shown.now c.loop.shown c.show_next.new.shown (Err c.in-Err.stop) c.loop.ahead (g.R.Read.remaining c.loop.reader)
    (g.W.Write.contents c.args.output.now) (g.W.Write.contents c.loop.output) (g.W.Write.contents c.show_next.new.output)
    a (c.in-Err.ensures a.remaining a.unread)

pub returns : goal.returns
returns g c = λ bytes is.
    it_ends g.P.Shows.shows bytes c.args.shown.now c.loop.shown c.loop.shown _ c.loop.ahead (g.R.Read.remaining c.loop.reader)
    (g.W.Write.contents c.args.output.now) (g.W.Write.contents c.loop.output) (g.W.Write.contents c.loop.output)
    (c.loop.invariant bytes is) (reading_stops g.P.Shows.shows _ c.loop.shown _ (g.W.Write.contents c.loop.output) tt)
