use Rattle.std.proofs.Common.{arith, add-one, ◌≡◌, ◌+◌}
use Rattle.iceoryx2_access.proofs.Run.{joins, both}
use Rattle.iceoryx2_access.specs.Run.{done}
use Rattle.iceoryx2_rounds.specs.OpenOrCreates.{no_attempt, one_more, ended, in_flux}
use Rattle.iceoryx2_rounds.specs.declared.open_or_create.TheConstants.{OPEN_OR_CREATE_RETRIES}
use Rattle.iceoryx2_rounds.proofs.open_or_create.open_or_create.Goals as goal

pub loop-round-init : goal.loop-round-init
loop-round-init g c = joins no_attempt done

pub loop-round-preserved : goal.loop-round-preserved
loop-round-preserved g c = let before = c.loop-round.invariant in let last = c.in-None.ensures in rw add-one (joins (one_more before.is_word last.is_word) (both before.run last.run))

pub returns-in-Some : goal.returns-in-Some
returns-in-Some g c = let before = c.loop-round.invariant in let last = c.in-Some.ensures in joins (ended (omega arith) before.is_word last.is_word) (both before.run last.run)

pub returns : goal.returns
returns g c = let before = c.loop-round.invariant in let all : c.loop-round._round ≡ OPEN_OR_CREATE_RETRIES + 1 = omega arith in joins (in_flux (rw all at before.is_word)) before.run
