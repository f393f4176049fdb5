use Rattle.std.proofs.Common.{refl, sym, ◌∙◌}
use Rattle.iceoryx2_table.specs.Recorded.{declined}
use Rattle.iceoryx2_table.proofs.OwnParts.{tag_starved}
use Rattle.iceoryx2_table.proofs.Recording.{barred, tag_found, tag_kept, tags_same}
use Rattle.iceoryx2_table.proofs.table.stored.StoredWorld.make_tag.Goals as goal

pub returns-then-is_ok : goal.returns-then-is_ok
returns-then-is_ok g c = tag_found c.args.node c.args.hash.now c.self.view_is (sym c.place_of-place.ensures.there ∙ sym c.is_ok.ensures.value ∙ c.if-is_ok.true) refl

pub returns-then-is_err : goal.returns-then-is_err
returns-then-is_err g c = barred refl refl (tag_starved c.args.node c.args.hash.now c.self.view_is (sym c.place_of-place.ensures.there ∙ sym c.is_ok.ensures.value ∙ c.if-is_ok.false) c.reserve.ensures.same) refl

pub returns-in_default : goal.returns-in_default
returns-in_default g c = declined refl (tags_same c.args.node c.args.hash.now c.self.view_is c.reserve.ensures.same) c.in_default.ensures.refused

pub returns : goal.returns
returns g c = tag_kept c.args.node c.args.hash.now c.self.view_is (sym c.place_of-place.ensures.there ∙ sym c.is_ok.ensures.value ∙ c.if-is_ok.false) c.insert_at.ensures.effect c.reserve.ensures.same c.in-Ok.ensures.written
