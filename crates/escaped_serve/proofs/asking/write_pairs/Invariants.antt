use Rattle.std.proofs.Common.{◌≡◌, ◌++◌, take, string_bytes}
use Rattle.escaped_serve.specs.Asking.{behind, pair_words}
use Rattle.escaped_serve.proofs.asking.write_pairs.Given as goal

abbrev pub invariant-loop-pair : goal.invariant-loop-pair
invariant-loop-pair l = string_bytes l.text ≡ string_bytes l.fn.text ++ behind (pair_words (take l.pair-index l.pairs))
