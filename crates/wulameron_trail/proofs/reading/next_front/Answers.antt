use Rattle.wulameron_trail.proofs.Pieces.{next_whole, next_torn, next_damaged, whole_is_within}
use Rattle.wulameron_trail.proofs.reading.next_front.Goals as goal

pub returns-in-Whole-clause-next : goal.returns-in-Whole-clause-next
returns-in-Whole-clause-next g c = λ bytes unread.
    next_whole c.as_slice.result.now c.loop.ahead (g.R.Read.remaining c.loop.reader) bytes c.in_ok-entry.field-0 c.in-Whole.entry c.in-Whole.count
    c.as_slice.ensures c.in-Whole.is c.in_ok-entry.ensures.front (c.loop.invariant bytes unread)

pub returns-in-Whole-clause-room : goal.returns-in-Whole-clause-room
returns-in-Whole-clause-room g c =
    whole_is_within c.as_slice.result.now c.loop.ahead c.in_ok-entry.field-0 c.in-Whole.entry c.in-Whole.count c.as_slice.ensures c.in-Whole.is c.in_ok-entry.ensures.front

pub returns-then-count-eq0-clause-next : goal.returns-then-count-eq0-clause-next
returns-then-count-eq0-clause-next g c = λ bytes unread.
    next_torn c.as_slice.result.now c.loop.ahead bytes c.in_ok-entry.field-0 c.as_slice.ensures c.in-Torn.is c.in_ok-entry.ensures.front
    (c.in_ok-count-in-Torn.ensures.end bytes (c.loop.invariant bytes unread) c.if-count-eq0.true)

pub returns-in-Unfinished-clause-next : goal.returns-in-Unfinished-clause-next
returns-in-Unfinished-clause-next g c = λ bytes unread.
    next_damaged c.as_slice.result.now c.loop.ahead (g.R.Read.remaining c.loop.reader) bytes c.in_ok-entry.field-0
    c.as_slice.ensures c.in-Unfinished.is c.in_ok-entry.ensures.front (c.loop.invariant bytes unread)
