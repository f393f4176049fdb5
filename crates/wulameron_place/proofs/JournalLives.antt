-- One stretch of a journal's life after another.
use Rattle.std.proofs.Common.{Option}
use Rattle.iceoryx2_log.specs.Log.{Contents}
use Rattle.iceoryx2_journal.specs.Journal.{JournalState}
use Rattle.iceoryx2_journal.specs.Replay.{Lives, begun, accesses, refreshes, cleans, adopts, spans, resumes}

pub lives_both : {L : Type 0} (contents : L → Option Contents) (a b c : JournalState L) → Lives contents a b → Lives contents b c → Lives contents a c
lives_both contents a b c x begun = x
lives_both contents a b c x (accesses {b = m} l y h) = accesses l (lives_both contents a b m x y) h
lives_both contents a b c x (refreshes {b = m} has_begun y h) = refreshes has_begun (lives_both contents a b m x y) h
lives_both contents a b c x (cleans {b = m} i l y h) = cleans i l (lives_both contents a b m x y) h
lives_both contents a b c x (adopts {b = m} i r y h) = adopts i r (lives_both contents a b m x y) h
lives_both contents a b c x (spans {b = m} y h) = spans (lives_both contents a b m x y) h
lives_both contents a b c x (resumes {b = m} log has_begun y same h) = resumes log has_begun (lives_both contents a b m x y) same h
