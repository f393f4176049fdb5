use Rattle.std.proofs.Common.{List, refl, string_bytes, subst}
use Rattle.iceoryx2_monitoring.specs.declared.state.NodeStatus.{NodeStatus}
use Rattle.wulameron_view.specs.Looking.{IsListed}
use Rattle.wulameron_trail.specs.Listing.{listed, unlisted}
use Rattle.wulameron_trail.proofs.listing.Listing.list_anew.Goals as goal

pub returns-else-eq-clause-lists : goal.returns-else-eq-clause-lists
returns-else-eq-clause-lists g c =
    let old = c.args.self.now in
    listed (string_bytes c.in-Ok.text)
    (subst (λ (states : List NodeStatus). IsListed old.list.listed states old.world (string_bytes c.in-Ok.text)) c.deref.ensures.value c.in-Ok.ensures.made)
    c.print.ensures.prints

pub returns-in-Err-clause-lists : goal.returns-in-Err-clause-lists
returns-in-Err-clause-lists g c = unlisted c.in-Err.stop c.in-Err.ensures.unmade refl refl
