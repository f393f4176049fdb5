use Rattle.escaped_serve.proofs.AskingTexts.{first, grown, last_two, then, two}
use Rattle.escaped_serve.proofs.asking.write_requests.Goals as goal

pub returns : goal.returns
returns c =
    then c.write_types-2.result c.write_types-2.ensures (λ h.
    grown (first c.in_ok-write_truth.ensures (first c.in_ok-write_truth-2.ensures (first c.in_ok-write_truth-3.ensures
    (first c.in_ok-write_number.ensures (first c.in_ok-write_number-2.ensures (first c.in_ok-write_number-3.ensures
    (first c.in_ok-write_number-4.ensures (first c.in_ok-write_number-5.ensures (first c.in_ok-write_number-6.ensures
    (first c.in_ok-write_number-7.ensures (two c.in_ok-write_types.ensures (last_two h)))))))))))))
