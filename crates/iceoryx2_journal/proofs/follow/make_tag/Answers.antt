use Rattle.std.proofs.Common.{refl, ap}
use Rattle.std.specs.Prelude.{◌&&◌, not}
use Rattle.iceoryx2_world.specs.World.{tag_of}
use Rattle.std.proofs.Common.{◌≡◌, Ok}
use Rattle.iceoryx2_access.specs.declared.storage.Tag.TheVariants.{Made}
use Rattle.iceoryx2_access.specs.Letter as letter
use Rattle.iceoryx2_log.specs.declared.entry.Operation.TheVariants as operation
use Rattle.iceoryx2_journal.proofs.Following.{judged}
use Rattle.iceoryx2_journal.proofs.follow.make_tag.Goals as goal

pub returns : goal.returns
returns c =
    let i = c.args.node in
    let h = c.args.hash.now in
    judged c.args.world.now (record { node = i; hash = h; operation = operation.MakeTag }) (letter.MakeTag i h c.make_tag.result) c.made_tag.result c.made_tag.ensures refl (c.make_tag.result, refl)
    (λ g. ap (letter.MakeTag i h) g) (λ g. let same : c.make_tag.result ≡ Ok Made = cc in same) (λ x. x) (λ f. ap (λ b. b && not (tag_of c.args.world.now i h)) f) c.make_tag.ensures
