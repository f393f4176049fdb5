-- Answers put in another way.
use Rattle.std.specs.Prelude.{Result, Ok, Err}

-- the answer with something else made of its success
abbrev pub map_ok : {A B E : Type 0} → (A → B) → Result A E → Result B E
map_ok f (Ok a) = Ok (f a)
map_ok f (Err e) = Err e

-- the answer with something else made of its refusal
abbrev pub map_err : {A E F : Type 0} → (E → F) → Result A E → Result A F
map_err f (Ok a) = Ok a
map_err f (Err e) = Err (f e)
