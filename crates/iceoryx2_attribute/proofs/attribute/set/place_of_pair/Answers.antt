use Rattle.std.proofs.Common.{rules}
use Rattle.std.proofs.lemmas.Fn.{always_returns_same}
use Rattle.iceoryx2_attribute.specs.Attributes.{pair_of, pair_cmp}
use Rattle.iceoryx2_attribute.proofs.Pairs.{placed}
use Rattle.iceoryx2_attribute.proofs.attribute.set.place_of_pair.Goals as goal

pub returns : goal.returns
returns c =
    let facts = c.binary_search_by.ensures in
    let p = pair_of c.args.key.now c.args.value.now in
    let by_pair = facts.position (λ q. pair_cmp q p) (always_returns_same _ _ _ (λ a r h called. search rules)) in
    let is = placed c.args.pairs.now p c.requires c.binary_search_by.result facts.bound by_pair in
    record { found = is.found; absent = is.absent; there = is.there; in_range = search rules; place = is.place }
