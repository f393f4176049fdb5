-- What any call changes and leaves.
use Rattle.std.proofs.Common.{ℕ, Bool, Ok, Err}
use Rattle.iceoryx2_rounds.proofs.Kept.{refused_create_call_keeps, refused_open_call_keeps}
use Rattle.iceoryx2_rounds.proofs.Left.{refused_call_gives_back}
use Rattle.iceoryx2_world.specs.Interference.{IsFallibleUnder}
use Rattle.iceoryx2_rounds.specs.BuilderCalls.{BuilderCall, Way, ToCreate, ToOpen, ToOpenOrCreate}
use Rattle.iceoryx2_call_laws.specs.Laws.{AddsItsTicket, RefusesCalmly, GrantsAtLast, LeavesWhatIsRefused, GivesEverythingBack}
use Rattle.iceoryx2_call_laws.proofs.calls.AnyCalls.{may_prepare, refused_rounds, granted_in_the_end, any_gives}
use Rattle.iceoryx2_call_laws.proofs.calls.Calm.{calm_at_each, changes_in_the_end}
use Rattle.iceoryx2_call_laws.proofs.calls.Left.{leaves_tag, gives_back}
use Rattle.iceoryx2_call_laws.proofs.calls.Rounds.{leaves_by_rounds, rounds_give_back}
use Rattle.iceoryx2_call_laws.proofs.calls.Tickets.{tame_tickets}
use Rattle.iceoryx2_call_laws.proofs.calls.Tracked.{rounds_back_tame}

module _ {D E C : Type 0} (own : ℕ → Bool) (c : BuilderCall D E C) where
  pub adds_its_ticket : AddsItsTicket own c
  adds_its_ticket word (Ok r) w v is run old = (any_gives c c.way word r is w v run old).tickets
  adds_its_ticket word (Err e) w v is run old = tame_tickets (rounds_back_tame (refused_rounds c c.way word e is)) run old

  pub refuses_calmly : RefusesCalmly own c
  refuses_calmly word refusal w mine is old = calm_at_each own mine w (rounds_back_tame (refused_rounds c c.way word refusal is)) tt old

  pub grants_at_last : GrantsAtLast own c
  grants_at_last word r w mine is old = changes_in_the_end own mine w old (granted_in_the_end c c.way word r is)

  pub leaves_what_is_refused : (way : Way) → LeavesWhatIsRefused (IsFallibleUnder own) (λ u. u) c own way
  leaves_what_is_refused ToCreate word refusal w v mine is run old =
      let back = refused_create_call_keeps (may_prepare c.prepares is) in
      record { gives_back = back; leaves = gives_back own c.caller.node mine c.caller.hash back run old }
  leaves_what_is_refused ToOpen word refusal w v mine is run old = leaves_tag own c.caller.node mine c.caller.hash (refused_open_call_keeps (may_prepare c.prepares is)) run old
  leaves_what_is_refused ToOpenOrCreate word refusal w v mine is run old = leaves_by_rounds own c.caller.node mine c.caller.hash (refused_call_gives_back c (may_prepare c.prepares is)) run old

  pub gives_everything_back : GivesEverythingBack own c
  gives_everything_back word refusal w v mine is run old = rounds_give_back own c.caller.node mine c.caller.hash (refused_rounds c c.way word refusal is) run old
