use Rattle.iceoryx2_journal.proofs.Runs.{goes_among_others, goes_under, keeps_nodes, refuses_others, stays_over}
use Rattle.iceoryx2_journal.proofs.Unread.{leaves_none_unread, keeps_the_log}
use Rattle.iceoryx2_journal.proofs.Replaying.{replays_the_log, is_what_it_comes_to}
use Rattle.iceoryx2_journal.proofs.Amounts.{shows_one_world}
use Rattle.iceoryx2_journal.proofs.laws.journals.Goals as goal

pub returns-clause-among_others : goal.returns-clause-among_others
returns-clause-among_others g c = goes_among_others g.L.Log.contents

pub returns-clause-under : goal.returns-clause-under
returns-clause-under g c = goes_under g.L.Log.contents

pub returns-clause-nodes : goal.returns-clause-nodes
returns-clause-nodes g c = keeps_nodes g.L.Log.contents

pub returns-clause-other : goal.returns-clause-other
returns-clause-other g c = refuses_others g.L.Log.contents

pub returns-clause-over : goal.returns-clause-over
returns-clause-over g c = stays_over g.L.Log.contents

pub returns-clause-unread : goal.returns-clause-unread
returns-clause-unread g c = leaves_none_unread g.L.Log.contents

pub returns-clause-kept : goal.returns-clause-kept
returns-clause-kept g c = keeps_the_log g.L.Log.contents

pub returns-clause-replays : goal.returns-clause-replays
returns-clause-replays g c = replays_the_log g.L.Log.contents

pub returns-clause-whole : goal.returns-clause-whole
returns-clause-whole g c = is_what_it_comes_to g.L.Log.contents

pub returns-clause-one : goal.returns-clause-one
returns-clause-one g c = shows_one_world g.L.Log.contents
