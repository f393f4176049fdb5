-- A length of time, or a point of it.
use Rattle.std.specs.Prelude.{ℕ, ◌<◌, ◌^◌}
use Rattle.iceoryx2_description.specs.declared.time.TheConstants.{NANOSECONDS_PER_SECOND}

pub record Span : Type 0 where
  pub seconds : ℕ
  pub nanoseconds : ℕ

abbrev pub zero_span : Span
zero_span = record { seconds = 0; nanoseconds = 0 }

-- within the limits of both numbers
abbrev pub IsSpan : Span → Type 0
IsSpan s = (s.seconds < 2 ^ 64) × (s.nanoseconds < NANOSECONDS_PER_SECOND)
