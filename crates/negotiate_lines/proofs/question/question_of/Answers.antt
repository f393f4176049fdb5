use Rattle.std.proofs.Common.{◌≡◌, ℕ, List, [], refl}
use Rattle.iceoryx2_builder.specs.Commands.{slot_count}
use Rattle.negotiate_lines.specs.declared.question.Question.TheVariants as question
use Rattle.negotiate_lines.specs.Questions.{Asks, IsOnly, IsOnlyOrNone, any_number, line, node_or_none, nothing, slot}
use Rattle.negotiate_lines.specs.Terms.{IsNumber, terms_of}
use Rattle.negotiate_lines.proofs.Reading.{none_found, reads_found}
use Rattle.negotiate_lines.proofs.question.question_of.Goals as goal

pub returns-in_err-only_slot-in-show : goal.returns-in_err-only_slot-in-show
returns-in_err-only_slot-in-show c =
    rw c.in-show.is (reads_found (Asks (slot question.Show) (terms_of c.args.others.now)) _
    (none_found (IsOnly (IsNumber slot_count) (terms_of c.args.others.now)) (Asks (slot question.Show) (terms_of c.args.others.now)) _ _
    c.from_residual.ensures.1 c.in_err-only_slot-in-show.ensures (λ none q given. none given.0 given.1)))

pub returns-in_err-only_slot-in-bytes : goal.returns-in_err-only_slot-in-bytes
returns-in_err-only_slot-in-bytes c =
    rw c.in-bytes.is (reads_found (Asks (slot question.Bytes) (terms_of c.args.others.now)) _
    (none_found (IsOnly (IsNumber slot_count) (terms_of c.args.others.now)) (Asks (slot question.Bytes) (terms_of c.args.others.now)) _ _
    c.from_residual-in_err-only_slot-in-bytes.ensures.1 c.in_err-only_slot-in-bytes.ensures (λ none q given. none given.0 given.1)))

pub returns-in_err-only_slot-in-abandon : goal.returns-in_err-only_slot-in-abandon
returns-in_err-only_slot-in-abandon c =
    rw c.in-abandon.is (reads_found (Asks (slot question.Abandon) (terms_of c.args.others.now)) _
    (none_found (IsOnly (IsNumber slot_count) (terms_of c.args.others.now)) (Asks (slot question.Abandon) (terms_of c.args.others.now)) _ _
    c.from_residual-in_err-only_slot-in-abandon.ensures.1 c.in_err-only_slot-in-abandon.ensures (λ none q given. none given.0 given.1)))

pub returns-in_err-nothing-in-entries : goal.returns-in_err-nothing-in-entries
returns-in_err-nothing-in-entries c =
    rw c.in-entries.is (reads_found (Asks (nothing question.Entries) (terms_of c.args.others.now)) _
    (none_found (λ none. terms_of c.args.others.now ≡ []) (Asks (nothing question.Entries) (terms_of c.args.others.now)) _ _
    c.from_residual-in_err-nothing-in-entries.ensures.1 c.in_err-nothing-in-entries.ensures (λ none q given. none tt given.0)))

pub returns-in_err-nothing-in-nodes : goal.returns-in_err-nothing-in-nodes
returns-in_err-nothing-in-nodes c =
    rw c.in-nodes.is (reads_found (Asks (nothing question.Nodes) (terms_of c.args.others.now)) _
    (none_found (λ none. terms_of c.args.others.now ≡ []) (Asks (nothing question.Nodes) (terms_of c.args.others.now)) _ _
    c.from_residual-in_err-nothing-in-nodes.ensures.1 c.in_err-nothing-in-nodes.ensures (λ none q given. none tt given.0)))

pub returns-in_err-number_or_none-in-clean : goal.returns-in_err-number_or_none-in-clean
returns-in_err-number_or_none-in-clean c =
    rw c.in-clean.is (reads_found (Asks (node_or_none question.Clean) (terms_of c.args.others.now)) _
    (none_found (IsOnlyOrNone (terms_of c.args.others.now)) (Asks (node_or_none question.Clean) (terms_of c.args.others.now)) _ _
    c.from_residual-in_err-number_or_none-in-clean.ensures.1 c.in_err-number_or_none-in-clean.ensures (λ none q given. none given.0 given.1)))

pub returns-in_err-number_or_none-in-rehearse : goal.returns-in_err-number_or_none-in-rehearse
returns-in_err-number_or_none-in-rehearse c =
    rw c.in-rehearse.is (reads_found (Asks (node_or_none question.Rehearse) (terms_of c.args.others.now)) _
    (none_found (IsOnlyOrNone (terms_of c.args.others.now)) (Asks (node_or_none question.Rehearse) (terms_of c.args.others.now)) _ _
    c.from_residual-in_err-number_or_none-in-rehearse.ensures.1 c.in_err-number_or_none-in-rehearse.ensures (λ none q given. none given.0 given.1)))

pub returns-in_ok-bytes_of_leaf-in-plain : goal.returns-in_ok-bytes_of_leaf-in-plain
returns-in_ok-bytes_of_leaf-in-plain c =
    rw c.in-plain.is (c.in_ok-bytes_of_leaf-in-plain.field-0, (_, c.in_ok-only-in-plain.ensures, c.in_ok-bytes_of_leaf-in-plain.ensures), refl)
