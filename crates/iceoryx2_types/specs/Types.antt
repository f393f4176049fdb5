-- Types of messages: what is known of one, and when what one message is made of fits another.
use Rattle.std.specs.Prelude.{ℕ, ◌≡◌, ◌≤◌, ◌*◌, List, length, max, Option, Some, None}
use Rattle.std.specs.Prelude.{Bool, true, false, ◌&&◌, IsTrue, bytes_eq, nat_eq, nat_le}
use Rattle.std.specs.Int.{is_power_of_two}
use Rattle.iceoryx2_types.specs.Texts.{IsText}
use Rattle.iceoryx2_types.specs.declared.types.TheConstants.{MIN_TYPE_NAME_LENGTH, MAX_TYPE_NAME_LENGTH}
use Rattle.iceoryx2_types.specs.declared.types.TypeVariant.{TypeVariant}
use Rattle.iceoryx2_types.specs.declared.types.TypeVariant.TheVariants.{FixedSize, Dynamic}

-- ---- one type

-- what is told of a type: size and alignment in bytes
pub record Detail : Type 0 where
  pub variant : TypeVariant
  pub name : List ℕ
  pub size : ℕ
  pub alignment : ℕ

abbrev pub detail_of : TypeVariant → List ℕ → ℕ → ℕ → Detail
detail_of variant name size alignment =
    record { variant = variant; name = name; size = size; alignment = alignment }

-- of one value
abbrev pub fixed_size : List ℕ → ℕ → ℕ → Detail
fixed_size = detail_of FixedSize

-- the same type, but one value of it, or a number of values
abbrev pub with_variant : Detail → TypeVariant → Detail
with_variant d variant = detail_of variant d.name d.size d.alignment

-- ---- its limits

abbrev pub HasNameLength : List ℕ → Type 0
HasNameLength name = (MIN_TYPE_NAME_LENGTH ≤ length name) × (length name ≤ MAX_TYPE_NAME_LENGTH)

abbrev pub IsTypeName : List ℕ → Type 0
IsTypeName = IsText MIN_TYPE_NAME_LENGTH MAX_TYPE_NAME_LENGTH

abbrev pub IsAlignment : ℕ → Type 0
IsAlignment n = IsTrue (is_power_of_two n)

pub record IsDetail (d : Detail) : Type 0 where
  pub name : IsTypeName d.name
  pub alignment : IsAlignment d.alignment

-- values stand one behind the other without gaps
abbrev pub FillsItsPlace : Detail → Type 0
FillsItsPlace d = (count : ℕ) × (d.size ≡ count * d.alignment)

-- ---- a message

-- what a message is made of
pub record Message : Type 0 where
  pub header : Detail
  pub user_header : Detail
  pub payload : Detail

abbrev pub message_of : Detail → Detail → Detail → Message
message_of header user_header payload =
    record { header = header; user_header = user_header; payload = payload }

pub record IsMessage (m : Message) : Type 0 where
  pub header : IsDetail m.header
  pub user_header : IsDetail m.user_header
  pub payload : IsDetail m.payload

-- ---- a message as it is sent: other types in place of its own, and a further alignment

-- what is told of a type, or what is told in its place
abbrev pub in_place_of : Detail → Option Detail → Detail
in_place_of own None = own
in_place_of own (Some other) = other

-- aligned as far as it is, and at least as far as is asked
abbrev pub with_alignment : Detail → Option ℕ → Detail
with_alignment d None = d
with_alignment d (Some asked) = detail_of d.variant d.name d.size (max d.alignment asked)

-- the header as it is, and what is told in place of user header and payload; the payload is then aligned
unfoldable pub with_overrides : Message → Option Detail → Option Detail → Option ℕ → Message
with_overrides m user_header payload alignment = message_of m.header (in_place_of m.user_header user_header)
    (with_alignment (in_place_of m.payload payload) alignment)

-- ---- compatibility: one's own, and what is there

-- the same type, which is aligned at least as far
pub record Fits (own other : Detail) : Type 0 where
  pub variant : own.variant ≡ other.variant
  pub name : own.name ≡ other.name
  pub size : own.size ≡ other.size
  pub alignment : own.alignment ≤ other.alignment

pub record IsCompatible (own other : Message) : Type 0 where
  -- in all fields
  pub header : own.header ≡ other.header
  pub user_header : Fits own.user_header other.user_header
  pub payload : Fits own.payload other.payload

-- ---- the same as tests

abbrev pub same_variant : TypeVariant → TypeVariant → Bool
same_variant FixedSize FixedSize = true
same_variant FixedSize Dynamic = false
same_variant Dynamic FixedSize = false
same_variant Dynamic Dynamic = true

abbrev pub same_type : Detail → Detail → Bool
same_type d e = same_variant d.variant e.variant && bytes_eq d.name e.name && nat_eq d.size e.size

abbrev pub same_detail : Detail → Detail → Bool
same_detail d e = same_type d e && nat_eq d.alignment e.alignment

abbrev pub fits : Detail → Detail → Bool
fits own other = same_type own other && nat_le own.alignment other.alignment

unfoldable pub compatible : Message → Message → Bool
compatible own other = same_detail own.header other.header
    && fits own.user_header other.user_header && fits own.payload other.payload
