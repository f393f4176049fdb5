use Rattle.std.proofs.Common.{◌++◌, ◌∷◌, ◌∙◌, ap, codes, string_bytes}
use Rattle.escaped_serve.proofs.AskingTexts.{first, grown, last, then}
use Rattle.escaped_serve.specs.Asking.{none_or_text, term_text, time_text}
use Rattle.escaped_serve.proofs.asking.write_events.Goals as goal

pub returns : goal.returns
returns c =
    then c.write_time.result c.write_time.ensures (λ h.
    grown (first c.in_ok-write_number.ensures (first c.in_ok-write_number-2.ensures (first c.in_ok-write_number-3.ensures (first c.in_ok-write_number-4.ensures
    (first c.in_ok-write_event.ensures (first c.in_ok-write_event-2.ensures (first c.in_ok-write_event-3.ensures
    (last (h ∙ ap (λ value. string_bytes c.write_event-3.new.text ++ (32 ∷ term_text (codes "deadline") (none_or_text time_text value))) c.deadline_value.ensures))))))))))
