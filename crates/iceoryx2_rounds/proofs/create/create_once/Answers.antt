use Rattle.iceoryx2_access.proofs.Run.{joins, both}
use Rattle.iceoryx2_rounds.proofs.RoundAttributes.{creates}
use Rattle.iceoryx2_rounds.proofs.create.create_once.Goals as goal

pub returns-in-Some : goal.returns-in-Some
returns-in-Some g c = let first = rw c.adjust.ensures at c.in-Some.ensures in joins (creates _ _ _ (first.is_word _ _)) first.run

pub returns : goal.returns
returns g c =
    let first = rw c.adjust.ensures at c.in-None.ensures in
    let described = rw c.adjust.ensures at c.take_over-described.ensures in
    let rest = rw (c.clock_stops-stopped.ensures, c.needs_clock.ensures, c.adjust.ensures) at c.create_described.ensures (g.P.Pattern.adjusted c.args.pattern) in
    joins (creates _ _ _ (rest.is_word _ described _ first.is_word)) (both first.run rest.run)
