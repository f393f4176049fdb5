use Rattle.std.proofs.Common.{List, sym, subst}
use Rattle.std.proofs.lemmas.Result.{IfOk-weaker}
use Rattle.iceoryx2_world.specs.declared.listing.Entry.{Entry}
use Rattle.iceoryx2_world.specs.Orders.{hash_cmp}
use Rattle.iceoryx2_world.specs.Listing.{ListsAll}
use Rattle.iceoryx2_table.proofs.Merging.{lists}
use Rattle.iceoryx2_large_table.proofs.services.ServicesSteps.list.Goals as goal

pub returns : goal.returns
returns g c =
    let rows = g.M.Rows.FiniteMap.seen hash_cmp c.args.self.now.rows in
    let segments = g.M.Segments.FiniteMap.seen hash_cmp c.args.self.now.segments in
    IfOk-weaker c.merge_entries.result _ _
    (λ es is. subst (λ (l : List Entry). ListsAll rows segments l) (sym is) (lists rows segments)) c.merge_entries.ensures
