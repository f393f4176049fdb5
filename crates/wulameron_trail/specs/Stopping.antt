-- Why no more of a log is shown.
use Rattle.std.specs.Prelude.{◌≡◌}
use Rattle.negotiate_serve.specs.declared.ending.ServeError.TheVariants as failure
use Rattle.wulameron_trail.specs.declared.stopping.ShowError.{ShowError}
use Rattle.wulameron_trail.specs.declared.stopping.ShowError.TheVariants as why
use Rattle.wulameron_trail.specs.declared.stopping.Stop.{Stop}
use Rattle.wulameron_trail.specs.declared.stopping.Stop.TheVariants as stop

-- the stop at an entry that isn't shown
abbrev pub stop_of : ShowError → Stop
stop_of why.OutOfMemory = stop.Failed failure.OutOfMemory
stop_of why.NotAnswered = stop.NotAnswered

-- It is of the log's file or of memory, and of no entry.
abbrev pub IsOfReading : Stop → Type 0
IsOfReading (stop.Refused f) = Unit {0}
IsOfReading (stop.Failed f) = f ≡ failure.OutOfMemory
IsOfReading _ = ⊥
