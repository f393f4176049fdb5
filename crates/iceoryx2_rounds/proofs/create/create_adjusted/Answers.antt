use Rattle.iceoryx2_access.proofs.Run.{joins, both}
use Rattle.iceoryx2_rounds.proofs.RoundAttributes.{creates}
use Rattle.iceoryx2_rounds.proofs.create.create_adjusted.Goals as goal

pub returns-in-Some : goal.returns-in-Some
returns-in-Some g c = let first = c.in-Some.ensures in joins (creates _ _ _ (first.is_word _ _)) first.run

pub returns : goal.returns
returns g c =
    let first = c.in-None.ensures in
    let rest = rw (c.clock_stops-stopped.ensures, c.needs_clock.ensures) at c.create_described.ensures c.args.pattern.now in
    joins (creates _ _ _ (rest.is_word _ c.describe-described.ensures _ first.is_word)) (both first.run rest.run)
