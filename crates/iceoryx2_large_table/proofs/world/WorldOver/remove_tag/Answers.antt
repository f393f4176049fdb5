use Rattle.std.proofs.Common.{◌≡◌, true, false, refl, rules}
use Rattle.std.specs.Prelude.{is_some}
use Rattle.std.specs.FinMap as map
use Rattle.iceoryx2_world.specs.Orders.{tag_cmp, tag_exact}
use Rattle.iceoryx2_table.proofs.Recording.{no_tag, tag_gone}
use Rattle.iceoryx2_large_table.proofs.world.WorldOver.remove_tag.Goals as goal

pub returns-then-is_none : goal.returns-then-is_none
returns-then-is_none g c =
    let absent : is_some (map.get (g.M.Tags.FiniteMap.seen tag_cmp c.self.inside.tags) (c.args.node, c.args.hash.now)) ≡ false = search rules in
    no_tag c.args.node c.args.hash.now c.self.view_is absent refl

pub returns : goal.returns
returns g c =
    let there : is_some (map.get (g.M.Tags.FiniteMap.seen tag_cmp c.self.inside.tags) (c.args.node, c.args.hash.now)) ≡ true = search rules in
    tag_gone c.args.node c.args.hash.now c.self.view_is there (c.remove_at.ensures.effect tag_exact) c.in-Ok.ensures.written
