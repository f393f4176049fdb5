-- Names.
use Rattle.std.specs.Prelude.{ℕ, List}
use Rattle.iceoryx2_types.specs.Texts.{IsText}
use Rattle.iceoryx2_description.specs.declared.description.TheConstants.{MIN_NAME_LENGTH, MAX_NAME_LENGTH}

-- a service's name
abbrev pub IsName : List ℕ → Type 0
IsName = IsText MIN_NAME_LENGTH MAX_NAME_LENGTH
