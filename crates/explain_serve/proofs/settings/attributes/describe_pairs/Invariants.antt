use Rattle.std.proofs.Common.{◌≡◌, ◌++◌, take, string_bytes}
use Rattle.explain_serve.specs.Attributes.{pair_lines}
use Rattle.explain_serve.proofs.settings.attributes.describe_pairs.Given as goal

abbrev pub invariant-loop-pair : goal.invariant-loop-pair
invariant-loop-pair l =
    string_bytes l.text ≡ string_bytes l.fn.text ++ pair_lines l.word l.key (take l.pair-index l.attributes)
