use Rattle.std.proofs.Common.{ℕ, List, refl, subst, sym}
use Rattle.iceoryx2_types.specs.Types.{HasNameLength}
use Rattle.negotiate_lines.specs.Leaves.{IsLeaf}
use Rattle.negotiate_lines.specs.Values.{IsNatural, IsVariantTerm, IsDetailTerm}
use Rattle.negotiate_lines.proofs.OneType.{no_parts, no_variant, no_size, no_alignment, no_name, not_aligned}
use Rattle.negotiate_lines.proofs.OneLeaf.{one_leaf}
use Rattle.negotiate_lines.proofs.Reading.{none_found, none_of, reads_found}
use Rattle.negotiate_lines.proofs.type_term.type_detail.Goals as goal

pub returns-in_default : goal.returns-in_default
returns-in_default c = no_parts c.args.form _ c.in_default.ensures

pub returns-in_err-variant : goal.returns-in_err-variant
returns-in_err-variant c =
    reads_found (IsDetailTerm c.args.form c.args.value.now) _ (none_found (IsVariantTerm c.in-Some.variant.now) (IsDetailTerm c.args.form c.args.value.now) _ _ c.from_residual.ensures.1 c.in_err-variant.ensures
    (no_variant c.args.form _ _ _ _ _ c.in-Some.ensures))

pub returns-in_err-size : goal.returns-in_err-size
returns-in_err-size c =
    reads_found (IsDetailTerm c.args.form c.args.value.now) _ (none_found (IsNatural c.in-Some.size.now) (IsDetailTerm c.args.form c.args.value.now) _ _ c.from_residual-in_err-size.ensures.1 c.in_err-size.ensures
    (no_size c.args.form _ _ _ _ _ c.in-Some.ensures))

pub returns-in_err-alignment : goal.returns-in_err-alignment
returns-in_err-alignment c =
    reads_found (IsDetailTerm c.args.form c.args.value.now) _ (none_found (IsNatural c.in-Some.alignment.now) (IsDetailTerm c.args.form c.args.value.now) _ _ c.from_residual-in_err-alignment.ensures.1 c.in_err-alignment.ensures
    (no_alignment c.args.form _ _ _ _ _ c.in-Some.ensures))

pub returns-in_err-name : goal.returns-in_err-name
returns-in_err-name c =
    none_of (IsLeaf c.args.form c.in-Some.name.now) (IsDetailTerm c.args.form c.args.value.now) _ _ c.from_residual-in_err-name.ensures.1
    c.in_err-name.ensures (λ never. no_name c.args.form _ _ _ _ _ c.in-Some.ensures (λ text leaf has. never text leaf))

pub returns-in-NameLength : goal.returns-in-NameLength
returns-in-NameLength c =
    let out = rw c.in-NameLength.is at c.in-Err.ensures.name_length in
    let form = c.args.form in
    let name = c.in-Some.name.now in
    let leaf : IsLeaf form name c.deref.result.now =
    subst (λ (t : List ℕ). IsLeaf form name t) (sym c.deref.ensures.value) c.in_ok-name.ensures in
    no_name form _ _ _ _ _ c.in-Some.ensures
    (λ text other has. out.0 refl (subst HasNameLength (one_leaf form name text c.deref.result.now other leaf) has))

pub returns-in-Alignment : goal.returns-in-Alignment
returns-in-Alignment c =
    let out = rw c.in-Alignment.is at c.in-Err.ensures.alignment in
    not_aligned c.args.form _ _ _ _ _ c.in-Some.ensures _ c.in_ok-alignment.ensures (out.0 refl).1
