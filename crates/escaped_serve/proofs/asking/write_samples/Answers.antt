use Rattle.escaped_serve.proofs.AskingTexts.{first, grown, last_two, then}
use Rattle.escaped_serve.proofs.asking.write_samples.Goals as goal

pub returns : goal.returns
returns c =
    then c.write_types.result c.write_types.ensures (λ h.
    grown (first c.in_ok-write_number.ensures (first c.in_ok-write_number-2.ensures (first c.in_ok-write_number-3.ensures
    (first c.in_ok-write_number-4.ensures (first c.in_ok-write_number-5.ensures (first c.in_ok-write_truth.ensures
    (first c.in_ok-write_number-6.ensures (last_two h)))))))))
