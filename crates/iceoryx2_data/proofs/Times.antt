-- Times, and what is told of events.
use Rattle.std.proofs.Common.{ℕ, ◌^◌, ◌<◌, ltb, ◌++◌, refl, arith}
use Rattle.std.specs.Prelude.{IfSome, IsTrue}
use Rattle.std.specs.Int.{w32, w64, to_be_bytes}
use Rattle.std.proofs.lemmas.Bool.{ltb-true, lt-ltb}
use Rattle.iceoryx2_description.specs.declared.time.TheConstants.{NANOSECONDS_PER_SECOND}
use Rattle.iceoryx2_description.specs.Span.{IsSpan}
use Rattle.iceoryx2_description.specs.Description.{IsDeadline}
use Rattle.iceoryx2_data.specs.PartForm.{number, option, span, deadline}
use Rattle.iceoryx2_data.specs.PartReading.{then_at, where_at, number_at, option_at, span_from, span_at, deadline_from, deadline_at}
use Rattle.iceoryx2_data.proofs.PartForms.{Reads, Reads-then, Reads-as, Reads-where, Reads-number32, Reads-number64, Reads-option}

abbrev pub Below64 : ℕ → Type 0
Below64 n = n < 2 ^ 64

pub Reads-span : Reads span_at span IsSpan
unfolding span_at
Reads-span = Reads-as span_from (λ s. (s.seconds, s.nanoseconds)) (where_at (λ p. ltb p.1 NANOSECONDS_PER_SECOND) (then_at (number_at w64) (number_at w32)))
    (λ p. number p.0 ++ to_be_bytes w32 p.1) (λ p. (Below64 p.0 × (p.1 < 2 ^ 32)) × IsTrue (ltb p.1 NANOSECONDS_PER_SECOND)) IsSpan
    (λ b. refl) (λ a. refl) (λ a h. (h.0.0, ltb-true _ _ h.1)) (λ b h. ((h.0, omega (arith, h.1)), lt-ltb _ _ h.1))
    (Reads-where (λ p. ltb p.1 NANOSECONDS_PER_SECOND) (then_at (number_at w64) (number_at w32)) (λ p. number p.0 ++ to_be_bytes w32 p.1) (λ p. Below64 p.0 × (p.1 < 2 ^ 32))
    (Reads-then (number_at w64) number Below64 (number_at w32) (to_be_bytes w32) (λ n. n < 2 ^ 32) Reads-number64 Reads-number32))

pub Reads-deadline : Reads deadline_at deadline IsDeadline
unfolding deadline_at
Reads-deadline = Reads-as deadline_from (λ d. (d.value, d.creation_time)) (then_at span_at span_at) (λ p. span p.0 ++ span p.1) (λ p. IsSpan p.0 × IsSpan p.1) IsDeadline
    (λ b. refl) (λ a. refl) (λ a h. h) (λ b h. h) (Reads-then span_at span IsSpan span_at span IsSpan Reads-span Reads-span)

pub Reads-id : Reads (option_at (number_at w64)) (option number) (λ o. IfSome o Below64)
Reads-id = Reads-option (number_at w64) number Below64 Reads-number64
