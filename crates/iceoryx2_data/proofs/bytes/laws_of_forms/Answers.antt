use Rattle.iceoryx2_data.proofs.Fields.{one_description, no_front}
use Rattle.iceoryx2_data.proofs.EachByte.{form_bytes}
use Rattle.iceoryx2_data.proofs.bytes.laws_of_forms.Goals as goal

pub returns-clause-bytes : goal.returns-clause-bytes
returns-clause-bytes c = form_bytes

pub returns-clause-only_description : goal.returns-clause-only_description
returns-clause-only_description c = one_description

pub returns-clause-no_front : goal.returns-clause-no_front
returns-clause-no_front c = no_front
