-- What slots hold.
use Rattle.std.specs.Prelude.{◌≡◌, ℕ, List, [], ◌∷◌, Option, Some, None, slice_get}
use Rattle.std.specs.Option.{option_flatten}
use Rattle.iceoryx2_access.specs.Registered.{Registered}

-- the slot is there, and empty
abbrev pub FreeAt : List (Option Registered) → ℕ → Type 0
FreeAt slots k = slice_get slots k ≡ Some None

-- the slot is there, and holds this factory
abbrev pub HoldsAt : List (Option Registered) → ℕ → Registered → Type 0
HoldsAt slots k f = slice_get slots k ≡ Some (Some f)

-- the slot is there, and holds a factory
abbrev pub TakenAt : List (Option Registered) → ℕ → Type 0
TakenAt slots k = (f : Registered) × HoldsAt slots k f

-- the factory that a slot holds, where there is such a slot and it holds one
abbrev pub held_at : List (Option Registered) → ℕ → Option Registered
held_at slots k = option_flatten (slice_get slots k)

-- the tickets of the factories that slots hold, in order
abbrev pub tickets_of : List (Option Registered) → List ℕ
tickets_of [] = []
tickets_of (None ∷ slots) = tickets_of slots
tickets_of (Some f ∷ slots) = f.ticket ∷ tickets_of slots
