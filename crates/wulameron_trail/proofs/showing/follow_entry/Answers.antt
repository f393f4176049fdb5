use Rattle.wulameron_trail.proofs.showing.follow_entry.Goals as goal

pub returns-in-Ok : goal.returns-in-Ok
returns-in-Ok c = c.in-Ok.ensures
