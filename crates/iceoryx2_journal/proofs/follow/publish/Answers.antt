use Rattle.std.proofs.Common.{refl, sym, ap, subst}
use Rattle.iceoryx2_data.specs.Form.{IsForm}
use Rattle.std.proofs.Common.{◌≡◌, Ok}
use Rattle.iceoryx2_access.specs.Letter as letter
use Rattle.iceoryx2_log.specs.declared.entry.Operation.TheVariants as operation
use Rattle.iceoryx2_journal.specs.Follow.{malformed}
use Rattle.iceoryx2_journal.proofs.Following.{judged}
use Rattle.iceoryx2_journal.proofs.follow.publish.Goals as goal

pub returns-in-Ok : goal.returns-in-Ok
returns-in-Ok c =
    let i = c.args.node in
    let h = c.args.hash.now in
    let n = c.args.number in
    let d = c.in-Ok.description in
    judged c.args.world.now (record { node = i; hash = h; operation = operation.Publish n c.args.bytes.now }) (letter.Publish i h n d c.publish.result) c.published.result c.published.ensures refl (d, c.publish.result, subst (IsForm d) c.as_slice.ensures c.in-Ok.ensures.found, refl)
    (λ g. (d, subst (IsForm d) c.as_slice.ensures c.in-Ok.ensures.found, ap (letter.Publish i h n d) g)) (λ g. let x = g.2 in let same : c.publish.result ≡ Ok n = cc in same) (λ x. x) (λ f. f) c.publish.ensures

pub returns-in-Err-Malformed : goal.returns-in-Err-Malformed
returns-in-Err-Malformed c =
    malformed c.args.number c.args.bytes.now refl (λ d form. let x = c.in-Err-Malformed.ensures.only d (subst (IsForm d) (sym c.as_slice.ensures) form) in absurd (cc)) refl
