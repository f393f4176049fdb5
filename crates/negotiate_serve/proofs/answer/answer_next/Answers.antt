use Rattle.std.proofs.Common.{true, false, string_bytes, Option, Result, Ok, Err, refl, sym, ap, subst, rules, ◌∙◌}
use Rattle.negotiate_serve.specs.declared.ending.Ending.{Ending}
use Rattle.negotiate_serve.specs.declared.ending.ServeError.{ServeError}
use Rattle.negotiate_serve.specs.Served.{TakesTurn}
use Rattle.negotiate_serve.proofs.Turns.{as_read, as_added, as_failure, as_written, turn_at_end, turn_answered, turn_without_command, turn_cut}
use Rattle.negotiate_serve.proofs.answer.answer_next.Goals as goal

pub returns-then-not-branch-clause-turn : goal.returns-then-not-branch-clause-turn
returns-then-not-branch-clause-turn g c = λ stands rest known.
    let left = g.R.Read.remaining c.next_line.new.reader in
    let line = c.next_line.new.line.items in
    turn_at_end (g.L.Lines.lines c.args.lines.now) c.args.answerer.now c.args.answerer.now c.args.number rest left line (g.W.Write.contents c.args.output.now)
    (as_read rest line line left c.in_ok-next_line.field-0 false (c.in_ok-next_line.ensures.read rest known) (search rules) refl)

pub returns-in_err-write_out-clause-turn : goal.returns-in_err-write_out-clause-turn
returns-in_err-write_out-clause-turn g c = λ stands rest known.
    let left = g.R.Read.remaining c.next_line.new.reader in
    let line = c.deref.result.now in
    let before = string_bytes c.clear.new.self in
    let text = string_bytes c.answer_line.new.text in
    let m = c.args.answerer.now in
    let n = c.answer_line.new.answerer in
    let old = g.W.Write.contents c.args.output.now in
    let new = g.W.Write.contents c.write_out.new.output in
    let failure = c.in_err-write_out.field-0.0 in
    subst (λ (r : Result (Option Ending) ServeError). TakesTurn (g.L.Lines.lines c.args.lines.now) r m c.args.number rest left n old new)
    (sym (as_failure c.from_residual-in_err-write_out.result failure c.from_residual-in_err-write_out.ensures.1))
    (turn_cut (g.L.Lines.lines c.args.lines.now) m n c.args.number rest left line before text c.clear.ensures.bytes
    (as_read rest c.next_line.new.line.items line left c.in_ok-next_line.field-0 true (c.in_ok-next_line.ensures.read rest known) (search rules) c.deref.ensures.value)
    c.in_ok-goes_on.goes_on failure old new (c.in_ok-goes_on.ensures.answered stands)
    (as_written c.as_bytes.result.now text (Err failure) old new c.in_err-write_out.ensures c.as_bytes.ensures.value))

pub returns-then-goes_on-clause-turn : goal.returns-then-goes_on-clause-turn
returns-then-goes_on-clause-turn g c = λ stands rest known.
    let left = g.R.Read.remaining c.next_line.new.reader in
    let line = c.deref.result.now in
    let before = string_bytes c.clear.new.self in
    let text = string_bytes c.answer_line.new.text in
    let m = c.args.answerer.now in
    let n = c.answer_line.new.answerer in
    let old = g.W.Write.contents c.args.output.now in
    let new = g.W.Write.contents c.write_out.new.output in
    turn_answered (g.L.Lines.lines c.args.lines.now) m n c.args.number rest left line before text c.clear.ensures.bytes
    (as_read rest c.next_line.new.line.items line left c.in_ok-next_line.field-0 true (c.in_ok-next_line.ensures.read rest known) (search rules) c.deref.ensures.value)
    old new (as_added (g.L.Lines.lines c.args.lines.now) m n c.args.number line before text c.in_ok-goes_on.goes_on true (c.in_ok-goes_on.ensures.answered stands) c.if-goes_on.true)
    (as_written c.as_bytes.result.now text (Ok tt) old new c.in_ok-write_out.ensures c.as_bytes.ensures.value)

pub returns-clause-turn : goal.returns-clause-turn
returns-clause-turn g c = λ stands rest known.
    let left = g.R.Read.remaining c.next_line.new.reader in
    let line = c.deref.result.now in
    let before = string_bytes c.clear.new.self in
    let text = string_bytes c.answer_line.new.text in
    let m = c.args.answerer.now in
    let n = c.answer_line.new.answerer in
    let old = g.W.Write.contents c.args.output.now in
    let new = g.W.Write.contents c.write_out.new.output in
    turn_without_command (g.L.Lines.lines c.args.lines.now) m n c.args.number rest left line before text c.clear.ensures.bytes
    (as_read rest c.next_line.new.line.items line left c.in_ok-next_line.field-0 true (c.in_ok-next_line.ensures.read rest known) (search rules) c.deref.ensures.value)
    _ old new (refl, c.deref.ensures.value ∙ sym (ap (λ v. v.items) c.replace-line.ensures.value)) (as_added (g.L.Lines.lines c.args.lines.now) m n c.args.number line before text c.in_ok-goes_on.goes_on false (c.in_ok-goes_on.ensures.answered stands) c.if-goes_on.false)
    (as_written c.as_bytes.result.now text (Ok tt) old new c.in_ok-write_out.ensures c.as_bytes.ensures.value)
