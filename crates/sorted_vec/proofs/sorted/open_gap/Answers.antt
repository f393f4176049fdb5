use Rattle.std.proofs.Common.{arith, ◌≤◌, ◌/◌, length, ap, ◌∙◌}
use Rattle.finite_map.specs.Chunks.{chunk_at}
use Rattle.sorted_vec.proofs.Gaps.{halves-flat, halves-shaped}
use Rattle.sorted_vec.proofs.sorted.open_gap.Goals as goal

pub returns-then-at-half-clause-same : goal.returns-then-at-half-clause-same
returns-then-at-half-clause-same g c =
    let cs = c.args.pieces.now in
    let many = c.requires.parts in
    let long = c.len.ensures ∙ ap (λ x. length x.entries) c.piece.ensures in
    let full : c.args.most ≤ length (chunk_at cs c.args.piece).entries = omega (arith, long, c.if-len-most.false) in
    halves-flat cs c.part.new.self c.args.piece (c.args.most / 2) c.args.most c.requires.there c.requires.shaped full (omega (arith, many)) (omega (arith, many)) c.in_ok-part.ensures.parted

pub returns-then-at-half-clause-shaped : goal.returns-then-at-half-clause-shaped
returns-then-at-half-clause-shaped g c =
    let cs = c.args.pieces.now in
    let many = c.requires.parts in
    let long = c.len.ensures ∙ ap (λ x. length x.entries) c.piece.ensures in
    let full : c.args.most ≤ length (chunk_at cs c.args.piece).entries = omega (arith, long, c.if-len-most.false) in
    halves-shaped cs c.part.new.self c.args.piece (c.args.most / 2) c.args.most c.requires.there c.requires.shaped full (omega (arith, many)) (omega (arith, many)) c.in_ok-part.ensures.parted

pub returns-clause-same : goal.returns-clause-same
returns-clause-same g c =
    let cs = c.args.pieces.now in
    let many = c.requires.parts in
    let long = c.len.ensures ∙ ap (λ x. length x.entries) c.piece.ensures in
    let full : c.args.most ≤ length (chunk_at cs c.args.piece).entries = omega (arith, long, c.if-len-most.false) in
    halves-flat cs c.part.new.self c.args.piece (c.args.most / 2) c.args.most c.requires.there c.requires.shaped full (omega (arith, many)) (omega (arith, many)) c.in_ok-part.ensures.parted

pub returns-clause-shaped : goal.returns-clause-shaped
returns-clause-shaped g c =
    let cs = c.args.pieces.now in
    let many = c.requires.parts in
    let long = c.len.ensures ∙ ap (λ x. length x.entries) c.piece.ensures in
    let full : c.args.most ≤ length (chunk_at cs c.args.piece).entries = omega (arith, long, c.if-len-most.false) in
    halves-shaped cs c.part.new.self c.args.piece (c.args.most / 2) c.args.most c.requires.there c.requires.shaped full (omega (arith, many)) (omega (arith, many)) c.in_ok-part.ensures.parted
