use Rattle.std.proofs.Common.{Some, inl, inr, refl, sym, ap, ◌∙◌}
use Rattle.iceoryx2_world.specs.declared.world.Participant.TheVariants.{Node}
use Rattle.iceoryx2_world.specs.declared.world.Row.TheVariants as row
use Rattle.iceoryx2_world.specs.Acts as act
use Rattle.iceoryx2_world.specs.Access.{nothing, read_change}
use Rattle.iceoryx2_world.specs.Orders.{hash_cmp, place_cmp}
use Rattle.iceoryx2_table.specs.ServicesState.{ServicesState, step_at}
use Rattle.iceoryx2_table.proofs.Accesses.{read_or_not}
use Rattle.iceoryx2_table.proofs.OwnParts.{fetch_part, fetch_unread}
use Rattle.iceoryx2_table.proofs.Views.{told, written}
use Rattle.iceoryx2_large_table.proofs.world.unrecorded.WorldOverOwnParts.fetch.Goals as goal

pub returns-in_default : goal.returns-in_default
returns-in_default g c = fetch_part c.args.node c.args.hash.now c.self.view_is _ _ nothing (sym c.in_default.ensures) (refl, refl) (sym c.self.view_is)

pub returns-in_default-state : goal.returns-in_default-state
returns-in_default-state g c = fetch_part c.args.node c.args.hash.now c.self.view_is _ _ nothing (sym c.in-Some.ensures ∙ ap Some (told c.in-Some.row.now c.state.ensures c.in_default-state.is)) (refl, refl) (sym c.self.view_is)

pub returns-in_default-copy : goal.returns-in_default-copy
returns-in_default-copy g c = fetch_part c.args.node c.args.hash.now c.self.view_is _ _ nothing (sym c.in-Some.ensures ∙ ap Some (told c.in-Some.row.now c.state.ensures c.in-Published.is).1) (inr (refl, refl)) (sym c.self.view_is)

pub returns-in_default-read : goal.returns-in_default-read
returns-in_default-read g c = fetch_unread c.args.node c.args.hash.now c.self.view_is _ _ (sym c.in-Some.ensures ∙ ap Some (told c.in-Some.row.now c.state.ensures c.in-Published.is).1) c.in_default-read.ensures.3

pub returns : goal.returns
returns g c =
    let services : ServicesState = record {
      rows = g.M.Rows.FiniteMap.seen hash_cmp c.self.inside.services.rows;
      segments = g.M.Segments.FiniteMap.seen hash_cmp c.self.inside.services.segments;
      phases = g.M.Phases.FiniteMap.seen place_cmp c.self.inside.services.phases;
      counter = c.self.inside.services.counter;
    } in
    fetch_part c.args.node c.args.hash.now c.self.view_is _ _ (read_change (step_at services (Node c.args.node) c.args.hash.now act.Read))
    (sym c.in-Some.ensures ∙ ap Some (written c.in-Some.row.now c.state.ensures c.bytes.ensures c.in-Published.is ∙ ap (row.Published c.in-Published.number) (sym c.in-Ok.ensures)))
    (inl (refl, refl)) (read_or_not _ _ _ _ _ _ _ c.in-Ok-read.ensures)
