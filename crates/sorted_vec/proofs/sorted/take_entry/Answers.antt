use Rattle.std.proofs.Common.{rules, arith, ◌≡◌, ◌<◌, ◌≤◌, length, sym, ap, subst, ◌∙◌}
use Rattle.std.proofs.lemmas.List.{length-set}
use Rattle.finite_map.specs.Chunks.{chunk_at, flat, IsShaped}
use Rattle.sorted_vec.proofs.Takes.{taken_out, taken_shaped, gone_flat, gone_shaped}
use Rattle.sorted_vec.proofs.sorted.take_entry.Goals as goal
use Rattle.sorted_vec.proofs.sorted.take_entry.Goals.{else-len-eq0-via-then-len-eq0+else-has, else-len-eq0-via-else-len-eq0}

pub returns-then-has-clause-entries : goal.returns-then-has-clause-entries
returns-then-has-clause-entries g c =
    let cs = c.args.pieces.now in
    let ds = c.remove-value.new.self in
    let none : length (chunk_at ds c.args.piece).entries ≡ 0 = ap (λ x. length x.entries) (sym c.piece.ensures) ∙ sym c.len.ensures ∙ c.if-len-eq0.true in
    ap flat c.remove_piece.ensures ∙ gone_flat cs ds c.args.piece c.args.at c.remove-value.ensures.only c.requires c.remove-value.ensures.entries none

pub returns-then-has-clause-shaped : goal.returns-then-has-clause-shaped
returns-then-has-clause-shaped g c = λ most shaped.
    let cs = c.args.pieces.now in
    let ds = c.remove-value.new.self in
    let long = ap length c.remove-value.ensures.only ∙ length-set cs c.args.piece (chunk_at ds c.args.piece) in
    let more : 1 < length ds = search rules in
    let several : 1 < length cs = omega (arith, long, more) in
    subst (λ es. IsShaped es most) (sym c.remove_piece.ensures) (gone_shaped cs ds c.args.piece c.args.at c.remove-value.ensures.only c.requires c.remove-value.ensures.entries several most shaped)

pub returns-else-len-eq0-clause-entries : goal.returns-else-len-eq0-clause-entries
returns-else-len-eq0-clause-entries g c =
    taken_out c.args.pieces.now c.remove-value.new.self c.args.piece c.args.at c.remove-value.ensures.only c.requires c.remove-value.ensures.entries

pub returns-else-len-eq0-clause-shaped : goal.returns-else-len-eq0-clause-shaped
returns-else-len-eq0-clause-shaped g c =
    let cs = c.args.pieces.now in
    let ds = c.remove-value.new.self in
    let long = ap length c.remove-value.ensures.only ∙ length-set cs c.args.piece (chunk_at ds c.args.piece) in
    let size = ap (λ x. length x.entries) (sym c.piece.ensures) ∙ sym c.len.ensures in
    let some : 1 < length cs → 0 < length (chunk_at ds c.args.piece).entries = λ several.
    elim c.else-len-eq0.branch [
      | else-len-eq0-via-then-len-eq0+else-has w ↦ let few : length ds ≤ 1 = search rules in absurd (omega (arith, long, few, several))
      | else-len-eq0-via-else-len-eq0 w ↦ omega (arith, size)
    ] in
    taken_shaped cs ds c.args.piece c.args.at c.remove-value.ensures.only c.requires c.remove-value.ensures.entries some
