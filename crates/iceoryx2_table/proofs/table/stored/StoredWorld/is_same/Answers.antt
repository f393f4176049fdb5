use Rattle.std.proofs.Common.{sym, ap, ◌∙◌}
use Rattle.std.specs.Prelude.{true, nat_eq, ◌==◌, ◌&&◌}
use Rattle.iceoryx2_description.specs.contracts.description.ServiceHashPartialEq.TheImpl as hashes
use Rattle.iceoryx2_world.specs.contracts.world.TicketPartialEq.TheImpl as tickets
use Rattle.iceoryx2_table.specs.Comparing.{same_row, same_segment, settled_phases}
use Rattle.iceoryx2_table.specs.Decided.{hash_decides, row_decides, segment_decides, tag_decides, ticket_decides, unit_decides}
use Rattle.std.proofs.lemmas.Bool.Decides.{Decides-eqb}
use Rattle.iceoryx2_table.proofs.Alike.{maps_same, maps_apart, alike_by_list, list_by_alike}
use Rattle.iceoryx2_table.proofs.table.stored.StoredWorld.is_same.Goals as goal

pub returns-then-ne : goal.returns-then-ne
returns-then-ne c = (λ e. absurd (cc), λ s. absurd (maps_apart hashes.ghosts.eq same_row hash_decides row_decides c.args.self.now.rows c.args.other.now.rows c.rows_held.ensures c.rows_held-2.ensures c.ne.ensures c.if-ne.true s.rows))

pub returns-then-ne-2 : goal.returns-then-ne-2
returns-then-ne-2 c = (λ e. absurd (cc), λ s. absurd (maps_apart hashes.ghosts.eq same_segment hash_decides segment_decides c.args.self.now.segments c.args.other.now.segments c.segments_held.ensures c.segments_held-2.ensures c.ne-2.ensures c.if-ne-2.true s.segments))

pub returns-then-ne-3 : goal.returns-then-ne-3
returns-then-ne-3 c = (λ e. absurd (cc), λ s. absurd (maps_apart (λ x y. x.0 == y.0 && hashes.ghosts.eq x.1 y.1) (λ x y. true) tag_decides unit_decides c.args.self.now.tags c.args.other.now.tags c.tags_held.ensures c.tags_held-2.ensures c.ne-3.ensures c.if-ne-3.true s.tags))

pub returns-then-ne-4 : goal.returns-then-ne-4
returns-then-ne-4 c = (λ e. absurd (cc), λ s. absurd (maps_apart nat_eq tickets.ghosts.eq Decides-eqb ticket_decides c.args.self.now.tickets c.args.other.now.tickets c.tickets_held.ensures c.tickets_held-2.ensures c.ne-4.ensures c.if-ne-4.true s.tickets))

pub returns : goal.returns
returns c =
    let w = c.args.self.now in
    let v = c.args.other.now in (
      λ t. record {
        rows = maps_same hashes.ghosts.eq same_row hash_decides row_decides w.rows v.rows c.rows_held.ensures c.rows_held-2.ensures c.ne.ensures c.if-ne.false;
        segments = maps_same hashes.ghosts.eq same_segment hash_decides segment_decides w.segments v.segments c.segments_held.ensures c.segments_held-2.ensures c.ne-2.ensures c.if-ne-2.false;
        phases = λ p h. alike_by_list w.phases v.phases (ap settled_phases (sym c.phases_held-2.ensures) ∙ c.same_phases.ensures.0 t ∙ ap settled_phases c.phases_held.ensures) (p, h);
        tags = maps_same (λ x y. x.0 == y.0 && hashes.ghosts.eq x.1 y.1) (λ x y. true) tag_decides unit_decides w.tags v.tags c.tags_held.ensures c.tags_held-2.ensures c.ne-3.ensures c.if-ne-3.false;
        tickets = maps_same nat_eq tickets.ghosts.eq Decides-eqb ticket_decides w.tickets v.tickets c.tickets_held.ensures c.tickets_held-2.ensures c.ne-4.ensures c.if-ne-4.false;
        counter = sym c.counter-2.ensures ∙ sym c.if-counter.false ∙ c.counter.ensures;
      },
      λ s. c.same_phases.ensures.1 (ap settled_phases c.phases_held-2.ensures ∙ list_by_alike w.phases v.phases (λ q. s.phases q.0 q.1) ∙ ap settled_phases (sym c.phases_held.ensures)),
    )
