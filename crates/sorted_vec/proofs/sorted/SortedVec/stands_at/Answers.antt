use Rattle.std.proofs.Common.{◌≡◌, true, sym, subst, ap, ◌∙◌}
use Rattle.std.specs.Cmp.{Equal-is}
use Rattle.std.specs.Ordering.{is_eq}
use Rattle.finite_map.specs.Places.{TiesAt}
use Rattle.finite_map.proofs.Spots.{stands_ties}
use Rattle.sorted_vec.proofs.Places.{ties_by}
use Rattle.sorted_vec.proofs.sorted.SortedVec.stands_at.Goals as goal

pub returns-then-at-entries : goal.returns-then-at-entries
returns-then-at-entries g c = λ equal.
    let cs = c.self.inside.pieces in
    let es = c.entries-entries.result.now in
    let test : is_eq c.cmp.result ≡ true = sym c.is_eq.ensures ∙ equal in
    let same = sym c.cmp.ensures ∙ (Equal-is c.cmp.result).0 test in
    let ties = ties_by g.K.Ord.cmp c.args.key.now es c.args.at c.index-entries-at.result c.if-at-entries.true same in
    let here = c.entries-entries.ensures ∙ ap (λ x. x.entries) c.piece.ensures in
    rw (← c.self.view_is) (stands_ties g.K.Ord.cmp g.met.K.Ord.total cs c.self.invariant.sorted c.args.key.now c.args.piece c.args.at (subst (λ xs. TiesAt g.K.Ord.cmp c.args.key.now xs c.args.at) here ties), tt)
