-- What a writer has taken of a text.
use Rattle.std.specs.Prelude.{◌≡◌, ℕ, ◌<◌, ◌≤◌, length, take, List, ◌++◌, Option, Some, None, Result, Ok, Err}
use Rattle.std.specs.Io.KnownBytes.{Appends, Keeps}
use Rattle.negotiate_serve.specs.declared.ending.ServeError.{ServeError}
use Rattle.negotiate_serve.specs.Endings.{IsOfWriting}

-- the one begins with the other
abbrev pub IsFrontOf : List ℕ → List ℕ → Type 0
IsFrontOf front text = (rest : List ℕ) × (text ≡ front ++ rest)

-- The writer has taken the whole text, and nothing else; or where it failed a front of it.
abbrev pub Writes : (text : List ℕ) → Result (Unit {0}) ServeError → (old new : Option (List ℕ)) → Type 0
Writes text (Ok done) old new = Appends old new text
Writes text (Err f) old new = IsOfWriting f × (front : List ℕ) × IsFrontOf front text × Appends old new front

-- The writer has taken so many bytes of the text, at least one, and nothing else; or it failed, and has taken nothing.
abbrev pub TakesFront : (text : List ℕ) → Result ℕ ServeError → (old new : Option (List ℕ)) → Type 0
TakesFront text (Ok count) old new = (0 < count) × (count ≤ length text) × Appends old new (take count text)
TakesFront text (Err f) old new = IsOfWriting f × Keeps old new

-- The writer has done so, or it was interrupted, and has taken nothing.
abbrev pub TakesOnce : (text : List ℕ) → Result (Option ℕ) ServeError → (old new : Option (List ℕ)) → Type 0
TakesOnce text (Ok (Some count)) old new = TakesFront text (Ok count) old new
TakesOnce text (Ok None) old new = Keeps old new
TakesOnce text (Err f) old new = TakesFront text (Err f) old new
