use Rattle.std.proofs.Common.{◌≡◌, ◌++◌, take, string_bytes}
use Rattle.std.specs.List.{flat_map}
use Rattle.wulameron_view.specs.ShowTexts.{member_line}
use Rattle.wulameron_view.proofs.show_text.write_members.Given as goal

abbrev pub invariant-loop-member : goal.invariant-loop-member
invariant-loop-member l =
    string_bytes l.text ≡ string_bytes l.fn.text ++ flat_map (member_line l.is_coloured l.states) (take l.member-index l.members)
