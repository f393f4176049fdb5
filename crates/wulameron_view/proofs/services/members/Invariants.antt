use Rattle.std.proofs.Common.{◌≡◌, take}
use Rattle.wulameron_view.specs.Services.{members_of}
use Rattle.wulameron_view.proofs.services.members.Given as goal

abbrev pub invariant-loop-entry : goal.invariant-loop-entry
invariant-loop-entry l = l.members.items ≡ members_of l.world l.hash (take l.entry-index l.participants)
