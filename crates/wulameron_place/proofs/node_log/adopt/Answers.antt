use Rattle.wulameron_place.proofs.JournalLives.{lives_both}
use Rattle.wulameron_place.proofs.node_log.adopt.Goals as goal

pub returns-clause-lives : goal.returns-clause-lives
returns-clause-lives g c =
    lives_both g.L.Log.contents c.args.journal.now c.clean.new.self c.adopt.new.self c.clean.ensures.lives c.adopt.ensures.lives
