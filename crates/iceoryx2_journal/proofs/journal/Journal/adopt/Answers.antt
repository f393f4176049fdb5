use Rattle.iceoryx2_journal.proofs.GivingBack.{adopts_all, adopts_keeps, adopts_none}
use Rattle.iceoryx2_journal.proofs.Lives.{adopts_lives}
use Rattle.iceoryx2_journal.proofs.journal.Journal.adopt.Goals as goal

pub returns-clause-lives : goal.returns-clause-lives
returns-clause-lives g c =
    adopts_lives g.L.Log.contents c.args.node c.args.self.now c.adopt_next.new.self c.adopt_next.result c.adopt_next.ensures.adopts

pub returns-clause-kept : goal.returns-clause-kept
returns-clause-kept g c =
    adopts_keeps g.L.Log.contents c.args.node c.args.self.now c.adopt_next.new.self c.adopt_next.result c.adopt_next.ensures.adopts

pub returns-clause-ok : goal.returns-clause-ok
returns-clause-ok g c =
    adopts_all g.L.Log.contents c.args.node c.args.self.now c.adopt_next.new.self c.adopt_next.result c.adopt_next.ensures.adopts

pub returns-clause-err : goal.returns-clause-err
returns-clause-err g c =
    adopts_none g.L.Log.contents c.args.node c.args.self.now c.adopt_next.new.self c.adopt_next.result c.adopt_next.ensures.adopts
