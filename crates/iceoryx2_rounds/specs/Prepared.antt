-- The words of calls that may prepare the types of their messages first.
use Rattle.std.specs.Prelude.{ℕ, List, [], Result, Err}
use Rattle.iceoryx2_description.specs.declared.description.ServiceHash.{ServiceHash}
use Rattle.iceoryx2_access.specs.Letter.{Letter}
use Rattle.iceoryx2_access.specs.Registered.{Registered}
use Rattle.iceoryx2_rounds.specs.declared.pattern.OpenRefusal.TheVariants as open_refusal
use Rattle.iceoryx2_rounds.specs.declared.pattern.CreateRefusal.TheVariants as create_refusal
use Rattle.iceoryx2_rounds.specs.PatternRules.{PatternRules}
use Rattle.iceoryx2_rounds.specs.declared.caller.Caller.{Caller}
use Rattle.iceoryx2_rounds.specs.Counts.{IsWithin, open_limits}
use Rattle.iceoryx2_rounds.specs.Creates.{IsCreateWord}
use Rattle.iceoryx2_rounds.specs.Fronts.{GivesTagsBack}
use Rattle.iceoryx2_rounds.specs.Opens.{IsOpenWord}

-- A call that prepares its types first goes along a word of it, or makes no access where the types found no memory.
pub data IsPrepared {E : Type 0} (no_memory : E) (IsWord : List Letter → Result Registered E → Type 0)
    : List Letter → Result Registered E → Type 0 where
  unprepared : IsPrepared no_memory IsWord [] (Err no_memory)
  prepared : {word : List Letter} {answer : Result Registered E} → IsWord word answer
      → IsPrepared no_memory IsWord word answer

-- The words of a create that may prepare its types first,
abbrev pub IsCreateCall
    : {E C : Type 0} → PatternRules E C → Caller → List Letter → Result Registered C → Type 0
IsCreateCall m caller = IsPrepared (m.create_refusal create_refusal.OutOfMemory) (IsCreateWord m caller)

-- and those of such an open.
abbrev pub IsOpenCall
    : {E C : Type 0} → PatternRules E C → ℕ → ServiceHash → List Letter → Result Registered E → Type 0
IsOpenCall m node hash = IsPrepared (m.open_refusal open_refusal.OutOfMemory) (IsOpenWord m node hash)

module _ {E C : Type 0} (m : PatternRules E C) (node : ℕ) (hash : ServiceHash) (word : List Letter) where
  -- A word of an open is short,
  abbrev pub OpenIsShort : Result Registered E → Type 0
  OpenIsShort answer = IsOpenCall m node hash word answer → IsWithin word open_limits

  -- and one of an open that is refused gives its tags back.
  abbrev pub RefusedOpenGivesBack : E → Type 0
  RefusedOpenGivesBack error = IsOpenCall m node hash word (Err error) → GivesTagsBack node hash word
