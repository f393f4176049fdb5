-- The calls of the quiet machine that may prepare the types of their messages first.
use Rattle.std.specs.Prelude.{ℕ, Bool, true, false, Result, Ok, Err}
use Rattle.iceoryx2_description.specs.declared.description.ServiceHash.{ServiceHash}
use Rattle.iceoryx2_access.specs.Registered.{Registered}
use Rattle.iceoryx2_rounds.specs.declared.pattern.CreateRefusal.TheVariants as create_refusal
use Rattle.iceoryx2_rounds.specs.declared.pattern.OpenRefusal.TheVariants as open_refusal
use Rattle.iceoryx2_rounds.specs.PatternRules.{PatternRules}
use Rattle.iceoryx2_rounds.specs.declared.caller.Caller.{Caller}
use Rattle.iceoryx2_call_laws.specs.Quiet.{Quiet}
use Rattle.iceoryx2_call_laws.specs.QuietCalls.{Creates, Opens, Closes}

-- Such a call is one of the machine's, or it is out of memory in place of what that would answer, and nothing changes.
pub data PreparesFirst {E : Type 0} (no_memory : E) (q : Quiet) (Calls : Result Registered E → Quiet → Type 0)
    : Result Registered E → Quiet → Type 0 where
  unprepared : PreparesFirst no_memory q Calls (Err no_memory) q
  prepared : {answer : Result Registered E} {p : Quiet} → Calls answer p → PreparesFirst no_memory q Calls answer p

-- A call, of a builder that prepares its types first where it does.
abbrev pub PreparesFirstIf : {E : Type 0} → Bool → E → (q : Quiet) → (Result Registered E → Quiet → Type 0)
    → Result Registered E → Quiet → Type 0
PreparesFirstIf true no_memory q Calls = PreparesFirst no_memory q Calls
PreparesFirstIf false no_memory q Calls = Calls

-- A create that may prepare its types first,
abbrev pub CreatesPrepared
    : {E C : Type 0} → PatternRules E C → Quiet → Caller → Result Registered C → Quiet → Type 0
CreatesPrepared m q caller = PreparesFirst (m.create_refusal create_refusal.OutOfMemory) q (Creates m q caller)

-- and such an open.
abbrev pub OpensPrepared
    : {E C : Type 0} → PatternRules E C → Quiet → ℕ → ServiceHash → Result Registered E → Quiet → Type 0
OpensPrepared m q node hash = PreparesFirst (m.open_refusal open_refusal.OutOfMemory) q (Opens m q node hash)

-- Such a create that gave this factory, and then its close.
pub record CreatesAndCloses {E C : Type 0} (m : PatternRules E C) (q : Quiet) (caller : Caller) (r : Registered)
    (p : Quiet) : Type 0 where
  pub between : Quiet
  pub creates : CreatesPrepared m q caller (Ok r) between
  pub closes : Closes between r.node r.description.hash p
