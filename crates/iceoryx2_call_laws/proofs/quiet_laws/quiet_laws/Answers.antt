use Rattle.iceoryx2_call_laws.proofs.quiet.Calls.{empty_shows, close_follows}
use Rattle.iceoryx2_call_laws.proofs.quiet.Tickets.{has_opened, service_of}
use Rattle.iceoryx2_call_laws.proofs.quiet.Same.{holds_the_same, nothing_at, tickets_counted, tags_counted, all_gone}
use Rattle.iceoryx2_call_laws.proofs.quiet.Listing.{lists_the_machine}
use Rattle.iceoryx2_call_laws.proofs.quiet_laws.quiet_laws.Goals as goal

pub returns-clause-empty : goal.returns-clause-empty
returns-clause-empty c = empty_shows

pub returns-clause-close : goal.returns-clause-close
returns-clause-close c = close_follows

pub returns-clause-ticket : goal.returns-clause-ticket
returns-clause-ticket c = has_opened

pub returns-clause-standing : goal.returns-clause-standing
returns-clause-standing c = service_of

pub returns-clause-tickets : goal.returns-clause-tickets
returns-clause-tickets c = tickets_counted

pub returns-clause-tags : goal.returns-clause-tags
returns-clause-tags c = tags_counted

pub returns-clause-same : goal.returns-clause-same
returns-clause-same c = holds_the_same

pub returns-clause-absent : goal.returns-clause-absent
returns-clause-absent c = nothing_at

pub returns-clause-unused : goal.returns-clause-unused
returns-clause-unused c = all_gone

pub returns-clause-list : goal.returns-clause-list
returns-clause-list c = lists_the_machine
