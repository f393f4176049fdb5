use Rattle.iceoryx2_world.proofs.agreement.Stands.{ticket_stands, other_stands, run_stands, created_stands, found_stands, released_gone}
use Rattle.iceoryx2_world.proofs.agreement.Granted.{release_granted}
use Rattle.iceoryx2_world.proofs.laws.laws_of_standing.Goals as goal

pub returns-clause-ticket : goal.returns-clause-ticket
returns-clause-ticket g = ticket_stands

pub returns-clause-other : goal.returns-clause-other
returns-clause-other g = other_stands

pub returns-clause-stands : goal.returns-clause-stands
returns-clause-stands g = λ own w v word f. run_stands {own = own} f

pub returns-clause-released : goal.returns-clause-released
returns-clause-released g = λ own. release_granted {own = own}

pub returns-clause-taken_out : goal.returns-clause-taken_out
returns-clause-taken_out g = λ own. released_gone {own = own}

pub returns-clause-created : goal.returns-clause-created
returns-clause-created g = λ own. created_stands {own = own}

pub returns-clause-opened : goal.returns-clause-opened
returns-clause-opened g = λ own. found_stands {own = own}
