use Rattle.std.proofs.Common.{◌≡◌, true, false, refl, rules}
use Rattle.std.specs.Prelude.{is_some}
use Rattle.std.specs.FinMap as map
use Rattle.iceoryx2_world.specs.Orders.{tag_cmp}
use Rattle.iceoryx2_table.specs.Recorded.{declined}
use Rattle.iceoryx2_table.proofs.OwnParts.{tag_starved}
use Rattle.iceoryx2_table.proofs.Recording.{barred, tag_found, tag_kept, tags_same}
use Rattle.iceoryx2_large_table.proofs.world.WorldOver.make_tag.Goals as goal

pub returns-then-is_some : goal.returns-then-is_some
returns-then-is_some g c =
    let there : is_some (map.get (g.M.Tags.FiniteMap.seen tag_cmp c.self.inside.tags) (c.args.node, c.args.hash.now)) ≡ true = search rules in
    tag_found c.args.node c.args.hash.now c.self.view_is there refl

pub returns-in_default : goal.returns-in_default
returns-in_default g c =
    let absent : is_some (map.get (g.M.Tags.FiniteMap.seen tag_cmp c.self.inside.tags) (c.args.node, c.args.hash.now)) ≡ false = search rules in
    barred refl refl (tag_starved c.args.node c.args.hash.now c.self.view_is absent c.in_default.ensures.same) refl

pub returns-in_default-write_down : goal.returns-in_default-write_down
returns-in_default-write_down g c = declined refl (tags_same c.args.node c.args.hash.now c.self.view_is c.in-Ok.ensures.same) c.in_default-write_down.ensures.refused

pub returns : goal.returns
returns g c =
    let absent : is_some (map.get (g.M.Tags.FiniteMap.seen tag_cmp c.self.inside.tags) (c.args.node, c.args.hash.now)) ≡ false = search rules in
    tag_kept c.args.node c.args.hash.now c.self.view_is absent c.insert_at.ensures c.in-Ok.ensures.same c.in-Ok-write_down.ensures.written
