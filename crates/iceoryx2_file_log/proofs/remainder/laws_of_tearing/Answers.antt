use Rattle.iceoryx2_file_log.proofs.Crashes.{with_or_without}
use Rattle.iceoryx2_file_log.proofs.Torn.{none_torn_away}
use Rattle.iceoryx2_file_log.proofs.remainder.laws_of_tearing.Goals as goal

pub returns-clause-none : goal.returns-clause-none
returns-clause-none c = none_torn_away

pub returns-clause-crash : goal.returns-clause-crash
returns-clause-crash c = with_or_without
