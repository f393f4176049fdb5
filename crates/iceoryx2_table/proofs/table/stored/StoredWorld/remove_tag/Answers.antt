use Rattle.std.proofs.Common.{refl, sym, ◌∙◌}
use Rattle.iceoryx2_world.specs.Orders.{tag_exact}
use Rattle.iceoryx2_table.proofs.Recording.{no_tag, tag_gone}
use Rattle.iceoryx2_table.proofs.table.stored.StoredWorld.remove_tag.Goals as goal

pub returns-then-not-is_ok : goal.returns-then-not-is_ok
returns-then-not-is_ok g c = no_tag c.args.node c.args.hash.now c.self.view_is (sym c.place_of-place.ensures.there ∙ sym c.is_ok.ensures.value ∙ c.if-not-is_ok.true) refl

pub returns : goal.returns
returns g c = tag_gone c.args.node c.args.hash.now c.self.view_is (sym c.place_of-place.ensures.there ∙ sym c.is_ok.ensures.value ∙ c.if-not-is_ok.false) (c.remove_at.ensures.effect tag_exact) c.in-Ok.ensures.written
