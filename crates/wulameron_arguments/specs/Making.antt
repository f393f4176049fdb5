-- Which commands make a log, and which answer escaped lines.
use Rattle.std.specs.Prelude.{ℕ, Bool, false, List, ◌∷◌, Option, Some, None, String, bytes_eq, codes}
use Rattle.std.specs.Prelude.{string_bytes}
use Rattle.wulameron_arguments.specs.declared.asked.Asked.{Asked}
use Rattle.wulameron_arguments.specs.declared.asked.Asked.TheVariants as asked

-- the path of the log that is made where there is none
abbrev pub made_log : Asked → Option (List ℕ)
made_log (asked.Run run) = Some run.place.at.now
made_log (asked.Hold hold) = Some hold.place.at.now
made_log _ = None

-- whether escaped lines are answered
abbrev pub is_escaped : Asked → Bool
is_escaped (asked.Run run) = run.is_escaped
is_escaped _ = false

-- whether the second word, which names the command, is that of the sessions of before
abbrev pub asks_session : {A : Type 0} → (words : List (String A)) → Bool
asks_session (program ∷ command ∷ words) = bytes_eq (string_bytes command) (codes "session")
asks_session _ = false
