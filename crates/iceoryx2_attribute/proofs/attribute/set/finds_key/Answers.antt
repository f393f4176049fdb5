use Rattle.std.proofs.Common.{rules, ◌∙◌}
use Rattle.std.proofs.lemmas.Fn.{always_returns_same}
use Rattle.iceoryx2_attribute.specs.Attributes.{text_cmp}
use Rattle.iceoryx2_attribute.proofs.Pairs.{key_found}
use Rattle.iceoryx2_attribute.proofs.attribute.set.finds_key.Goals as goal

pub returns : goal.returns
returns c =
    let facts = c.binary_search_by.ensures in
    let key = c.args.key.now in
    let by_key = facts.position (λ q. text_cmp q.key key) (always_returns_same _ _ _ (λ a r h called. search rules)) in
    c.is_ok.ensures.value ∙ key_found c.args.pairs.now key c.requires c.binary_search_by.result facts.bound by_key
