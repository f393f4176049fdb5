-- What a reader gives at once.
use Rattle.std.specs.Prelude.{◌≡◌, ℕ, List, [], ◌++◌, Option, Some, None, Result, Ok, Err, take}
use Rattle.wulameron_trail.specs.declared.stopping.Stop.{Stop}
use Rattle.wulameron_trail.specs.Stopping.{IsOfReading}

-- The reader has given these bytes, where it is known what it has left. No byte is given only at its end.
abbrev pub Gives : List ℕ → ℕ → (old new : Option (List ℕ)) → Type 0
Gives piece count old new = (bytes : List ℕ) → old ≡ Some bytes
    → (rest : List ℕ) × (new ≡ Some rest) × (bytes ≡ take count piece ++ rest) × (count ≡ 0 → rest ≡ [])

-- The reader has as many left as before.
abbrev pub StaysUnread : (old new : Option (List ℕ)) → Type 0
StaysUnread old new = (bytes : List ℕ) → old ≡ Some bytes → new ≡ Some bytes

abbrev pub TakesPiece : Result ℕ Stop → List ℕ → (old new : Option (List ℕ)) → Type 0
TakesPiece (Ok count) piece old new = Gives piece count old new
TakesPiece (Err s) piece old new = IsOfReading s

-- The reader was asked once: it gave bytes, or it was interrupted and gave none.
abbrev pub TriesPiece : Result (Option ℕ) Stop → List ℕ → (old new : Option (List ℕ)) → Type 0
TriesPiece (Ok (Some count)) piece old new = Gives piece count old new
TriesPiece (Ok None) piece old new = StaysUnread old new
TriesPiece (Err s) piece old new = IsOfReading s
