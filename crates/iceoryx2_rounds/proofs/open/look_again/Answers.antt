use Rattle.iceoryx2_access.proofs.Run.{joins, both}
use Rattle.iceoryx2_rounds.specs.OpenParts.{second_faulty, second_none, second_found}
use Rattle.iceoryx2_rounds.proofs.LookSteps.{sees_fault, sees_none, sees_service}
use Rattle.iceoryx2_rounds.proofs.open.look_again.Goals as goal

pub returns-in-AtFault : goal.returns-in-AtFault
returns-in-AtFault g c =
    let seen = c.look.ensures in
    let back = c.give_back_tag.ensures in
    rw c.open_error_of.ensures (joins (second_faulty (sees_fault _ (rw c.in-AtFault.is at c.presence-seen.ensures) seen.is_word) back.is_word) (both seen.run back.run))

pub returns-in-Absent : goal.returns-in-Absent
returns-in-Absent g c =
    let seen = c.look.ensures in
    let back = c.give_back_tag.ensures in
    rw c.open_refusal.ensures (joins (second_none (sees_none _ (rw c.in-Absent.is at c.presence-seen.ensures) seen.is_word) back.is_word) (both seen.run back.run))

pub returns-in-Present : goal.returns-in-Present
returns-in-Present g c =
    let seen = c.look.ensures in
    let back = c.give_back_tag.ensures in
    joins (second_found (sees_service _ (rw c.in-Present.is at c.presence-seen.ensures) seen.is_word).look back.is_word) (both seen.run back.run)
