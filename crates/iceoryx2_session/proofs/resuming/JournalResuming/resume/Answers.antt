use Rattle.iceoryx2_journal.specs.Replay.{begun}
use Rattle.iceoryx2_session.proofs.resuming.JournalResuming.resume.Goals as goal

pub returns-in-None-clause-after : goal.returns-in-None-clause-after
returns-in-None-clause-after g c = begun
