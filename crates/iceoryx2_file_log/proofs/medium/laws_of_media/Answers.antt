use Rattle.iceoryx2_file_log.proofs.Keeping.{keeps_alone, keeps_in_turn, more_keeps, cut_keeps}
use Rattle.iceoryx2_file_log.proofs.Turning.{turns_keep}
use Rattle.iceoryx2_file_log.proofs.medium.laws_of_media.Goals as goal

pub returns-clause-alone : goal.returns-clause-alone
returns-clause-alone c = keeps_alone

pub returns-clause-in_turn : goal.returns-clause-in_turn
returns-clause-in_turn c = keeps_in_turn

pub returns-clause-more : goal.returns-clause-more
returns-clause-more c = more_keeps

pub returns-clause-cut : goal.returns-clause-cut
returns-clause-cut c = cut_keeps

pub returns-clause-turns : goal.returns-clause-turns
returns-clause-turns c = turns_keep
