use Rattle.std.proofs.Common.{rules}
use Rattle.std.specs.Ordering.{nat_cmp}
use Rattle.std.proofs.lemmas.Fn.{always_returns_same}
use Rattle.iceoryx2_monitoring.proofs.Rising.{searched}
use Rattle.iceoryx2_monitoring.proofs.state.place_of.Goals as goal

pub returns : goal.returns
returns c =
    let facts = c.binary_search_by.ensures in
    let by_number = facts.position (λ s. nat_cmp s.node c.args.node) (always_returns_same _ _ _ (λ a r h called. search rules)) in
    searched c.args.found.now c.args.node c.binary_search_by.result c.requires facts.bound by_number
