use Rattle.std.proofs.Common.{◌≤◌, take, string_bytes}
use Rattle.negotiate_serve.proofs.ServiceLines.{HasLines}
use Rattle.negotiate_serve.proofs.reply.describe_services.Given as goal

abbrev pub invariant-loop-entry : goal.invariant-loop-entry
invariant-loop-entry l = record {
  counted : l.count ≤ l.entry-index;
  so_far : HasLines l.fn.form (take l.entry-index l.entries) l.count (string_bytes l.fn.text) (string_bytes l.text);
}
