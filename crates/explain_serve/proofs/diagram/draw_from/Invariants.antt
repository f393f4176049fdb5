use Rattle.std.proofs.Common.{◌≡◌, ◌++◌, drop, string_bytes}
use Rattle.std.specs.List.{flat_map}
use Rattle.explain_serve.specs.Diagrams.{message_lines}
use Rattle.explain_serve.proofs.diagram.draw_from.Given as goal

abbrev pub invariant-loop-index : goal.invariant-loop-index
invariant-loop-index g l =
    string_bytes l.text ++ flat_map (message_lines l.caller) (drop l.index l.traced.entries)
    ≡ string_bytes l.fn.text ++ flat_map (message_lines l.caller) (drop l.first l.traced.entries)
