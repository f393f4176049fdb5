use Rattle.std.proofs.Common.{rules, ◌≡◌, ◌<◌, List, length, get_or, sym, ap, subst, ◌∙◌}
use Rattle.std.proofs.lemmas.List.{nil_from_length, get_or-set_same}
use Rattle.finite_map.specs.Sorted.{Sorted}
use Rattle.finite_map.specs.Chunks.{flat, IsShaped}
use Rattle.finite_map.proofs.Flats.{there, taken_out, taken_value, without_empty}
use Rattle.finite_map.proofs.Shapes.{shaped-remove}
use Rattle.finite_map.proofs.chunks.remove_entry.Goals as goal

pub returns-then-len-gt1-clause-entries : goal.returns-then-len-gt1-clause-entries
returns-then-len-gt1-clause-entries g c =
    let cs = c.args.chunks.now.items in
    let b = c.index_mut.result.now in
    let d = c.remove-value.new.self in
    let l = there cs c.args.chunk c.args.at c.requires.place in
    let read : get_or cs c.args.chunk b ≡ b = search rules in
    let same = c.index.ensures ∙ get_or-set_same cs c.args.chunk d c.index.result.now l in
    let none = ap (λ (x : Sorted g.row.K.Denot g.row.V.Denot). length x.entries) (sym same) ∙ sym c.len.ensures ∙ c.if-len-eq0.true in
    ap flat c.remove.ensures.items
    ∙ without_empty cs c.args.chunk d l (nil_from_length d.entries none)
    ∙ taken_out cs c.args.chunk c.args.at b d c.requires.place read c.remove-value.ensures.entries

pub returns-then-len-gt1-clause-shaped : goal.returns-then-len-gt1-clause-shaped
returns-then-len-gt1-clause-shaped g c =
    let cs = c.args.chunks.now.items in
    let d = c.remove-value.new.self in
    let l = there cs c.args.chunk c.args.at c.requires.place in
    let several : 1 < length cs = search rules in
    subst (λ (ds : List (Sorted g.row.K.Denot g.row.V.Denot)). IsShaped ds 64) (sym c.remove.ensures.items) (shaped-remove 64 cs c.args.chunk d c.requires.shaped several l)

pub returns-then-len-gt1-clause-value : goal.returns-then-len-gt1-clause-value
returns-then-len-gt1-clause-value g c =
    let cs = c.args.chunks.now.items in
    let b = c.index_mut.result.now in
    let read : get_or cs c.args.chunk b ≡ b = search rules in
    taken_value cs c.args.chunk c.args.at b c.remove-value.result c.requires.place read (sym c.remove-value.ensures.entry)

pub returns-else-len-eq0-clause-entries : goal.returns-else-len-eq0-clause-entries
returns-else-len-eq0-clause-entries g c =
    let cs = c.args.chunks.now.items in
    let b = c.index_mut.result.now in
    let read : get_or cs c.args.chunk b ≡ b = search rules in
    taken_out cs c.args.chunk c.args.at b _ c.requires.place read c.remove-value.ensures.entries

pub returns-else-len-eq0-clause-value : goal.returns-else-len-eq0-clause-value
returns-else-len-eq0-clause-value g c =
    let cs = c.args.chunks.now.items in
    let b = c.index_mut.result.now in
    let read : get_or cs c.args.chunk b ≡ b = search rules in
    taken_value cs c.args.chunk c.args.at b c.remove-value.result c.requires.place read (sym c.remove-value.ensures.entry)
