use Rattle.std.proofs.Common.{take, string_bytes}
use Rattle.negotiate_serve.specs.Replies.{GrowsBy}
use Rattle.escaped_serve.specs.Entries.{AreEntryTexts}
use Rattle.escaped_serve.proofs.entries.describe_each.Given as goal

abbrev pub invariant-loop-entry : goal.invariant-loop-entry
invariant-loop-entry l = GrowsBy (AreEntryTexts (take l.entry-index l.entries)) (string_bytes l.fn.text) (string_bytes l.text)
