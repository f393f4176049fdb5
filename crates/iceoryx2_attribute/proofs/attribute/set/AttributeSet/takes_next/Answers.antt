use Rattle.std.proofs.Common.{◌≡◌, ◌<◌, ◌∷◌, [], ◌++◌, length, rules, subst, sym, ◌∙◌}
use Rattle.iceoryx2_attribute.specs.Additions.{HasKeyLength, HasValueLength}
use Rattle.iceoryx2_attribute.specs.Attributes.{AreAttributes, ascends, pair_of}
use Rattle.iceoryx2_attribute.specs.declared.attribute.TheConstants.{MAX_ATTRIBUTES}
use Rattle.iceoryx2_attribute.proofs.Pairs.{is_pair, next_fits}
use Rattle.iceoryx2_attribute.proofs.attribute.set.AttributeSet.takes_next.Goals as goal

pub returns-then-has_room : goal.returns-then-has_room
returns-then-has_room c =
    let ps = c.args.self.now in
    let p = pair_of c.args.key.now c.args.value.now in
    let key : HasKeyLength c.args.key.now = search rules in
    let value : HasValueLength c.args.value.now = search rules in
    let few : length ps < MAX_ATTRIBUTES = search rules in
    let told : c.last_is_before.result ≡ ascends (ps ++ p ∷ []) = rw (← c.self.view_is, ← c.deref.ensures.value) c.last_is_before.ensures in
    let fits = subst AreAttributes c.self.view_is c.self.invariant in
    (λ yes. next_fits ps p fits (is_pair p key value c.utf8.key c.utf8.value) few (sym told ∙ yes), λ all. told ∙ all.ascending)
