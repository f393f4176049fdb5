use Rattle.std.proofs.Common.{◌≡◌, ◌++◌, drop, string_bytes}
use Rattle.explain_serve.specs.Accesses.{entry_lines}
use Rattle.explain_serve.proofs.accesses.describe_from.Given as goal

abbrev pub invariant-loop-index : goal.invariant-loop-index
invariant-loop-index g l =
    string_bytes l.text ++ entry_lines (drop l.index l.traced.entries)
    ≡ string_bytes l.fn.text ++ entry_lines (drop l.first l.traced.entries)
