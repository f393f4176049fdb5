-- Where a log lies.
use Rattle.wulameron_place.specs.declared.place_log.PlaceLog.{PlaceLog}
use Rattle.wulameron_place.specs.declared.place_log.PlaceLog.TheVariants as place

-- what is known of a log in a file, or of one in a database
abbrev pub by_place : {A B X : Type 0} → (A → X) → (B → X) → PlaceLog A B → X
by_place f g (place.File log) = f log
by_place f g (place.Database log) = g log
