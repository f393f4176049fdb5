use Rattle.escaped_serve.proofs.AskingTexts.{first, grown, last, then}
use Rattle.escaped_serve.proofs.asking.write_place.Goals as goal

pub returns : goal.returns
returns c =
    then c.write_word-2.result c.write_word-2.ensures (λ h. grown (first c.in_ok-push_str.ensures.bytes (first c.in_ok-write_word.ensures (last h))))
