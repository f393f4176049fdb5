use Rattle.std.proofs.Common.{string_bytes}
use Rattle.escaped_serve.proofs.EntryTexts.{nothing_yet, next_text}
use Rattle.escaped_serve.proofs.entries.describe_each.Goals as goal

pub loop-entry-init : goal.loop-entry-init
loop-entry-init c = nothing_yet (string_bytes c.args.text.now)

pub loop-entry-preserved : goal.loop-entry-preserved
loop-entry-preserved c =
    let at = c.loop-entry in
    next_text c.args.entries.now at.entry-index c.entry-item.result (string_bytes c.args.text.now) (string_bytes at.text) _ c.loop-entry-test.true c.entry-item.is at.invariant
    c.in_ok-describe_entry.ensures
