use Rattle.std.proofs.Common.{refl, ap}
use Rattle.std.specs.Prelude.{◌&&◌}
use Rattle.iceoryx2_world.specs.World.{tag_of}
use Rattle.std.proofs.Common.{◌≡◌, Ok}
use Rattle.iceoryx2_access.specs.Letter as letter
use Rattle.iceoryx2_log.specs.declared.entry.Operation.TheVariants as operation
use Rattle.iceoryx2_journal.proofs.Following.{judged}
use Rattle.iceoryx2_journal.proofs.follow.remove_tag.Goals as goal

pub returns : goal.returns
returns c =
    let i = c.args.node in
    let h = c.args.hash.now in
    judged c.args.world.now (record { node = i; hash = h; operation = operation.RemoveTag }) (letter.RemoveTag i h c.remove_tag.result) c.removed.result c.removed.ensures refl (c.remove_tag.result, refl)
    (λ g. ap (letter.RemoveTag i h) g) (λ g. let same : c.remove_tag.result ≡ Ok tt = cc in same) (λ x. absurd x) (λ f. ap (λ b. b && tag_of c.args.world.now i h) f) c.remove_tag.ensures
