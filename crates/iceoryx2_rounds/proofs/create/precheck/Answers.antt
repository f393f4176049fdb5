use Rattle.iceoryx2_access.proofs.Run.{joins, one, both}
use Rattle.iceoryx2_rounds.specs.Creates.{look_faulty, look_found, counted}
use Rattle.iceoryx2_rounds.specs.CreateParts.{free}
use Rattle.iceoryx2_rounds.proofs.LookSteps.{sees_none, sees_fault, sees_service}
use Rattle.iceoryx2_rounds.proofs.create.precheck.Goals as goal

pub returns-in-AtFault : goal.returns-in-AtFault
returns-in-AtFault g c = let seen = c.look.ensures in rw c.create_error_of.ensures (joins (look_faulty (sees_fault _ c.in-AtFault.ensures seen.is_word)) seen.run)

pub returns-in-Present : goal.returns-in-Present
returns-in-Present g c = let seen = c.look.ensures in rw c.create_refusal.ensures (joins (look_found (sees_service _ c.in-Present.ensures seen.is_word).look) seen.run)

pub returns-then-counts : goal.returns-then-counts
returns-then-counts g c =
    let seen = c.look.ensures in
    rw c.create_refusal-then-counts.ensures (joins (counted (sees_none _ c.in-Absent.ensures seen.is_word)) (both seen.run (one c.if-counts.ensures)))

pub returns : goal.returns
returns g c = let seen = c.look.ensures in joins (free (sees_none _ c.in-Absent.ensures seen.is_word)) (both seen.run (one c.if-counts.ensures))
