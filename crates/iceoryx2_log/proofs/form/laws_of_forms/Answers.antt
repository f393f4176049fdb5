use Rattle.iceoryx2_log.proofs.EachByte.{form_bytes}
use Rattle.iceoryx2_log.proofs.Found.{one_entry, no_front, cut_is_short}
use Rattle.iceoryx2_log.proofs.form.laws_of_forms.Goals as goal

pub returns-clause-bytes : goal.returns-clause-bytes
returns-clause-bytes c = form_bytes

pub returns-clause-only_entry : goal.returns-clause-only_entry
returns-clause-only_entry c = one_entry

pub returns-clause-no_front : goal.returns-clause-no_front
returns-clause-no_front c = no_front

pub returns-clause-cuts : goal.returns-clause-cuts
returns-clause-cuts c = cut_is_short
