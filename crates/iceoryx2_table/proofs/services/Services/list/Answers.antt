use Rattle.std.proofs.Common.{List, sym, subst, ◌∙◌}
use Rattle.std.proofs.lemmas.Result.{IfOk-weaker}
use Rattle.finite_map.specs.Sorted.{map_of}
use Rattle.iceoryx2_world.specs.declared.listing.Entry.{Entry}
use Rattle.iceoryx2_world.specs.Orders.{hash_cmp}
use Rattle.iceoryx2_world.specs.Listing.{ListsAll}
use Rattle.iceoryx2_table.specs.ServicesState.{ServicesState}
use Rattle.iceoryx2_table.specs.Merge.{merge}
use Rattle.iceoryx2_table.proofs.Merging.{lists}
use Rattle.iceoryx2_table.proofs.services.Services.list.Goals as goal

pub returns : goal.returns
returns c =
    let rows = map_of hash_cmp c.self.inside.rows in
    let segments = map_of hash_cmp c.self.inside.segments in
    IfOk-weaker c.merge_entries.result _ _
    (λ es is. subst (λ (b : ServicesState). ListsAll b.rows b.segments es.items) c.self.view_is
    (subst (λ (l : List Entry). ListsAll rows segments l) (sym (is ∙ (λ i. merge (c.entries.ensures i) (c.entries-2.ensures i)))) (lists rows segments)))
    c.merge_entries.ensures
