use Rattle.std.proofs.Common.{rules}
use Rattle.std.proofs.lemmas.Fn.{always_returns_same}
use Rattle.iceoryx2_attribute.specs.Attributes.{text_cmp}
use Rattle.iceoryx2_attribute.proofs.Keys.{placed}
use Rattle.iceoryx2_attribute.proofs.attribute.keys.place_of_key.Goals as goal

pub returns : goal.returns
returns c =
    let facts = c.binary_search_by.ensures in
    let by_key = facts.position (λ k. text_cmp k c.args.key.now) (always_returns_same _ _ _ (λ a r h called. search rules)) in
    let is = placed c.args.keys.now c.args.key.now c.requires c.binary_search_by.result facts.bound by_key in
    record { found = is.found; absent = is.absent; there = is.there; in_range = search rules; place = is.place }
