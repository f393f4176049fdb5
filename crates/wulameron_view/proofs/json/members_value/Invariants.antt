use Rattle.std.proofs.Common.{◌≡◌, map, take}
use Rattle.serde_json.specs.View.{view}
use Rattle.wulameron_view.specs.Data.{member_data}
use Rattle.wulameron_view.proofs.json.members_value.Given as goal

abbrev pub invariant-loop-member : goal.invariant-loop-member
invariant-loop-member l = map view l.values.items ≡ map (member_data l.states) (take l.member-index l.members)
