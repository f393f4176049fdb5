-- What the value of a term means by itself.
use Rattle.std.specs.Prelude.{ℕ, ◌≡◌, ◌^◌, Bool, true, false, List, Option, Some, None, Result, Ok, Err, codes}
use Rattle.iceoryx2_types.specs.declared.types.TypeVariant.{TypeVariant}
use Rattle.iceoryx2_types.specs.declared.types.TypeVariant.TheVariants.{FixedSize, Dynamic}
use Rattle.iceoryx2_types.specs.Types.{Detail, HasNameLength, IsAlignment}
use Rattle.iceoryx2_description.specs.declared.time.TheConstants.{NANOSECONDS_PER_SECOND}
use Rattle.iceoryx2_description.specs.declared.time.ClockFault.{ClockFault}
use Rattle.iceoryx2_description.specs.Span.{Span}
use Rattle.negotiate_lines.specs.declared.leaf.Form.{Form}
use Rattle.negotiate_lines.specs.Leaves.{IsLeaf}
use Rattle.negotiate_lines.specs.Terms.{AreAround, IsNumber}

abbrev pub IsNatural : List ℕ → ℕ → Type 0
IsNatural = IsNumber (2 ^ 64)

-- seconds and nanoseconds, around the first comma
pub record IsSpanTerm (value : List ℕ) (span : Span) : Type 0 where
  pub seconds : List ℕ
  pub nanoseconds : List ℕ
  pub around : AreAround 44 value seconds nanoseconds
  pub seconds_are : IsNatural seconds span.seconds
  pub nanoseconds_are : IsNumber NANOSECONDS_PER_SECOND nanoseconds span.nanoseconds

-- the term `none`, or what means a value
abbrev pub IsNoneOr : {A : Type 0} → (List ℕ → A → Type 0) → List ℕ → Option A → Type 0
IsNoneOr IsSuch value None = value ≡ codes "none"
IsNoneOr IsSuch value (Some a) = IsSuch value a

-- the term `fault`, or a time
abbrev pub IsClockTerm : List ℕ → Result Span ClockFault → Type 0
IsClockTerm value (Ok time) = IsSpanTerm value time
IsClockTerm value (Err fault) = value ≡ codes "fault"

-- the term `true` or `false`
abbrev pub IsTruthTerm : List ℕ → Bool → Type 0
IsTruthTerm value true = value ≡ codes "true"
IsTruthTerm value false = value ≡ codes "false"

-- ---- types

-- a power of two
abbrev pub IsAlignmentTerm : List ℕ → ℕ → Type 0
IsAlignmentTerm value n = IsNatural value n × IsAlignment n

-- the term `fixed` or `dynamic`
abbrev pub IsVariantTerm : List ℕ → TypeVariant → Type 0
IsVariantTerm value FixedSize = value ≡ codes "fixed"
IsVariantTerm value Dynamic = value ≡ codes "dynamic"

-- the four parts of a value, around its first three commas
pub record AreParts (value first second third fourth : List ℕ) : Type 0 where
  pub behind_first : List ℕ
  pub behind_second : List ℕ
  pub around_first : AreAround 44 value first behind_first
  pub around_second : AreAround 44 behind_first second behind_second
  pub around_third : AreAround 44 behind_second third fourth

-- Variant, name, size and alignment of a type. A fourth comma would stand in the alignment, which is a number.
pub record IsDetailTerm (form : Form) (value : List ℕ) (detail : Detail) : Type 0 where
  pub variant : List ℕ
  pub name : List ℕ
  pub size : List ℕ
  pub alignment : List ℕ
  pub parts : AreParts value variant name size alignment
  pub variant_is : IsVariantTerm variant detail.variant
  pub text_is : IsLeaf form name detail.name
  pub name_is : HasNameLength detail.name
  pub size_is : IsNatural size detail.size
  pub alignment_is : IsAlignmentTerm alignment detail.alignment
