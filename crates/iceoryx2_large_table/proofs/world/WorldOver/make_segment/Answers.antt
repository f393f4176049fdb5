use Rattle.std.proofs.Common.{◌≡◌, true, false, refl, ap, ◌∙◌, rules}
use Rattle.std.specs.Prelude.{is_some, nat_lt, ◌&&◌}
use Rattle.std.specs.FinMap as map
use Rattle.iceoryx2_world.specs.declared.world.Phase.{Phase}
use Rattle.iceoryx2_world.specs.Access.{has_lock}
use Rattle.iceoryx2_world.specs.Orders.{hash_cmp}
use Rattle.iceoryx2_table.proofs.OwnParts.{make_barred, make_exists, make_starved}
use Rattle.iceoryx2_table.proofs.Recording.{barred, make_not_done, make_is_done}
use Rattle.iceoryx2_large_table.proofs.world.WorldOver.make_segment.Goals as goal

pub returns-then-not-may_make : goal.returns-then-not-may_make
returns-then-not-may_make g c =
    let test = (c.may_make.ensures ∙ ap (λ (x : Phase). has_lock c.args.number x && nat_lt 0 c.args.max_nodes) c.position-position.ensures.phase) in
    barred refl refl (make_barred c.args.node c.args.hash.now c.self.view_is c.args.number c.args.max_nodes refl test c.if-not-may_make.true) refl

pub returns-then-is_some : goal.returns-then-is_some
returns-then-is_some g c =
    let test = (c.may_make.ensures ∙ ap (λ (x : Phase). has_lock c.args.number x && nat_lt 0 c.args.max_nodes) c.position-position.ensures.phase) in
    let there : is_some (map.get (g.M.Segments.FiniteMap.seen hash_cmp c.self.inside.services.segments) c.args.hash.now) ≡ true = search rules in
    barred refl refl (make_exists c.args.node c.args.hash.now c.self.view_is c.args.number c.args.max_nodes refl test c.if-not-may_make.false there) refl

pub returns-in_default : goal.returns-in_default
returns-in_default g c =
    let test = (c.may_make.ensures ∙ ap (λ (x : Phase). has_lock c.args.number x && nat_lt 0 c.args.max_nodes) c.position-position.ensures.phase) in
    barred refl refl (make_starved c.args.node c.args.hash.now c.self.view_is c.args.number c.args.max_nodes refl test c.if-not-may_make.false c.in_default.ensures.0) c.in_default.ensures.1

pub returns-then-not-made : goal.returns-then-not-made
returns-then-not-made g c =
    let test = (c.may_make.ensures ∙ ap (λ (x : Phase). has_lock c.args.number x && nat_lt 0 c.args.max_nodes) c.position-position.ensures.phase) in
    let absent : is_some (map.get (g.M.Segments.FiniteMap.seen hash_cmp c.self.inside.services.segments) c.args.hash.now) ≡ false = search rules in
    make_not_done c.args.node c.args.hash.now c.self.view_is c.args.number c.args.max_nodes refl test _ c.if-not-may_make.false absent c.if-not-made.true c.in-Ok.ensures

pub returns : goal.returns
returns g c =
    let test = (c.may_make.ensures ∙ ap (λ (x : Phase). has_lock c.args.number x && nat_lt 0 c.args.max_nodes) c.position-position.ensures.phase) in
    make_is_done c.args.node c.args.hash.now c.self.view_is c.args.number c.args.max_nodes refl test _ c.if-not-may_make.false c.if-not-made.false c.in-Ok.ensures
