-- The byte form of single parts. All numbers are big-endian.
use Rattle.std.specs.Prelude.{ℕ, List, [], ◌∷◌, ◌++◌, length, Bool, true, false, Option, Some, None}
use Rattle.std.specs.Int.{w16, w32, w64, to_be_bytes}
use Rattle.iceoryx2_types.specs.declared.types.TypeVariant.{TypeVariant}
use Rattle.iceoryx2_types.specs.declared.types.TypeVariant.TheVariants.{FixedSize, Dynamic}
use Rattle.iceoryx2_types.specs.Types.{Detail, Message}
use Rattle.iceoryx2_description.specs.declared.event.Deadline.{Deadline}
use Rattle.iceoryx2_description.specs.Span.{Span}

-- the length as two bytes, and the bytes
abbrev pub text : List ℕ → List ℕ
text t = to_be_bytes w16 (length t) ++ t

-- eight bytes
abbrev pub number : ℕ → List ℕ
number n = to_be_bytes w64 n

-- one byte
abbrev pub truth : Bool → List ℕ
truth false = 0 ∷ []
truth true = 1 ∷ []

-- a flag, and the value where there is one
abbrev pub option : {A : Type 0} → (A → List ℕ) → Option A → List ℕ
option form None = 0 ∷ []
option form (Some x) = 1 ∷ form x

-- seconds, and nanoseconds as four bytes
abbrev pub span : Span → List ℕ
span s = number s.seconds ++ to_be_bytes w32 s.nanoseconds

abbrev pub deadline : Deadline → List ℕ
deadline d = span d.value ++ span d.creation_time

-- one value, or a number of them
abbrev pub variant : TypeVariant → List ℕ
variant FixedSize = 0 ∷ []
variant Dynamic = 1 ∷ []

-- a type
abbrev pub detail : Detail → List ℕ
detail d = variant d.variant ++ text d.name ++ number d.size ++ number d.alignment

abbrev pub message : Message → List ℕ
message m = detail m.header ++ detail m.user_header ++ detail m.payload
