-- A log that is held over all accesses of a call.
use Rattle.std.specs.Prelude.{◌≡◌, Bool, true, false, Result, Ok, Err}
use Rattle.iceoryx2_log.specs.declared.call_log.CallLog.{CallLog}
use Rattle.iceoryx2_log.specs.declared.call_log.Span.{Span}
use Rattle.iceoryx2_log.specs.declared.call_log.Span.TheVariants as span
use Rattle.iceoryx2_log.specs.declared.log.LogError.{LogError}

-- with a call begun, where there was none
abbrev pub begun_in : Span → Span
begun_in span.None = span.Begun
begun_in other = other

-- whether there is a call
abbrev pub has_call : Span → Bool
has_call span.None = false
has_call other = true

-- after a pause, by whether it let go of the log
abbrev pub after_pause : (has_paused : Bool) → Span → Span
after_pause true span.Held = span.Paused
after_pause _ other = other

-- What a hold comes to by how the call finds the log: the first one takes it for all others or is refused with them.
-- Where the call has the log it is granted, and only after a pause it is for each hold to take it again.
abbrev pub SpansOn : (old : Span) → Result (Unit {0}) LogError → (new : Span) → Type 0
SpansOn span.None result new = new ≡ span.None
SpansOn span.Begun (Ok x) new = new ≡ span.Held
SpansOn span.Begun (Err why) new = new ≡ span.Refused why
SpansOn span.Held result new = (result ≡ Ok tt) × (new ≡ span.Held)
SpansOn span.Paused (Ok x) new = new ≡ span.Held
SpansOn span.Paused (Err why) new = new ≡ span.Paused
SpansOn (span.Refused why) result new = (result ≡ Err why) × (new ≡ span.Refused why)

-- Where the call has the log, the log inside is held, so no other handle appends.
abbrev pub IsSpanned : {L : Type 0} → (held : L → Bool) → CallLog L → Type 0
IsSpanned held l = l.span ≡ span.Held → held l.log ≡ true
