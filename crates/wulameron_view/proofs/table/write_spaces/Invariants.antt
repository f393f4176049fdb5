use Rattle.std.proofs.Common.{◌≡◌, ◌++◌, string_bytes}
use Rattle.wulameron_view.specs.Tables.{spaces}
use Rattle.wulameron_view.proofs.table.write_spaces.Given as goal

abbrev pub invariant-loop-space : goal.invariant-loop-space
invariant-loop-space l = string_bytes l.text ≡ string_bytes l.fn.text ++ spaces l._space
