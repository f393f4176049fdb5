use Rattle.iceoryx2_file_log.proofs.Standing.{one_list_each, appends_or_not, fronts_fit, appends_when_written}
use Rattle.iceoryx2_file_log.proofs.Standing.{keeps_appended, cuts_no_entry, cuts_or_not, none_skipped, none_invented}
use Rattle.iceoryx2_file_log.proofs.remainder.laws_of_crashes.Goals as goal

pub returns-clause-one : goal.returns-clause-one
returns-clause-one c = one_list_each

pub returns-clause-append : goal.returns-clause-append
returns-clause-append c = appends_or_not

pub returns-clause-fronts : goal.returns-clause-fronts
returns-clause-fronts c = fronts_fit

pub returns-clause-written : goal.returns-clause-written
returns-clause-written c = appends_when_written

pub returns-clause-kept : goal.returns-clause-kept
returns-clause-kept c = keeps_appended

pub returns-clause-cut : goal.returns-clause-cut
returns-clause-cut c = cuts_no_entry

pub returns-clause-cut_last : goal.returns-clause-cut_last
returns-clause-cut_last c = cuts_or_not

pub returns-clause-none_skipped : goal.returns-clause-none_skipped
returns-clause-none_skipped c = none_skipped

pub returns-clause-none_invented : goal.returns-clause-none_invented
returns-clause-none_invented c = none_invented
