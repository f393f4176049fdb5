-- The words of every call of a builder, with their answers.
use Rattle.std.specs.Prelude.{◌↔◌, Bool, true, false, List, Result, Err}
use Rattle.iceoryx2_access.specs.Registered.{Registered}
use Rattle.iceoryx2_access.specs.Letter.{Letter}
use Rattle.iceoryx2_access.specs.Run.{Joins}
use Rattle.iceoryx2_rounds.specs.declared.pattern.OpenRefusal.TheVariants as open_refusal
use Rattle.iceoryx2_rounds.specs.declared.pattern.CreateRefusal.TheVariants as create_refusal
use Rattle.iceoryx2_rounds.specs.Counts.{IsWithin}
use Rattle.iceoryx2_rounds.specs.Creates.{IsCreateWord}
use Rattle.iceoryx2_rounds.specs.Opens.{IsOpenWord}
use Rattle.iceoryx2_rounds.specs.Prepared.{IsPrepared}
use Rattle.iceoryx2_rounds.specs.BuilderCalls.{BuilderCall, Way, ToCreate, ToOpen, ToOpenOrCreate, ErrorBy}
use Rattle.iceoryx2_rounds.specs.BuilderCalls.{creating, opening, rounds_of, open_or_create_limits}
use Rattle.iceoryx2_rounds.specs.Leaves.{GivesBackByRounds}
use Rattle.iceoryx2_rounds.specs.OpenOrCreates.{IsOpenOrCreateWord}
use Rattle.iceoryx2_rounds.specs.declared.open_or_create.OpenOrCreateRefusal.{OpenOrCreateRefusal}
use Rattle.iceoryx2_rounds.specs.declared.open_or_create.OpenOrCreateRefusal.TheVariants as refusal

-- A word, of a call that prepares its types first where it does.
abbrev pub PreparedIf : {E : Type 0} → Bool → E → (List Letter → Result Registered E → Type 0)
    → List Letter → Result Registered E → Type 0
PreparedIf true no_memory IsWord = IsPrepared no_memory IsWord
PreparedIf false no_memory IsWord = IsWord

module _ {D E C : Type 0} (c : BuilderCall D E C) where
  -- What it answers where its types found no memory. An open or create prepares them once, before the first round, and
  -- has an error of an open there.
  abbrev pub no_memory_by : (way : Way) → ErrorBy E C way
  no_memory_by ToCreate = (creating c).create_refusal create_refusal.OutOfMemory
  no_memory_by ToOpen = (opening c).open_refusal open_refusal.OutOfMemory
  no_memory_by ToOpenOrCreate = refusal.Open ((opening c).open_refusal open_refusal.OutOfMemory)

  abbrev pub IsOpenOrCreateCall : List Letter → Result Registered (OpenOrCreateRefusal E C) → Type 0
  IsOpenOrCreateCall = IsPrepared (no_memory_by ToOpenOrCreate) (IsOpenOrCreateWord (rounds_of c))

  -- A word of an open or create is short,
  abbrev pub OpenOrCreateIsShort : List Letter → Result Registered (OpenOrCreateRefusal E C) → Type 0
  OpenOrCreateIsShort word answer = IsOpenOrCreateCall word answer → IsWithin word open_or_create_limits

  -- and one that is refused gives back what it made, round by round.
  abbrev pub RefusedOpenOrCreateGivesBack : List Letter → OpenOrCreateRefusal E C → Type 0
  RefusedOpenOrCreateGivesBack word error =
      IsOpenOrCreateCall word (Err error) → GivesBackByRounds c.caller.node c.caller.hash word

  abbrev pub IsWordBy : (way : Way) → List Letter → Result Registered (ErrorBy E C way) → Type 0
  IsWordBy ToCreate = PreparedIf c.prepares (no_memory_by ToCreate) (IsCreateWord (creating c) c.caller)
  IsWordBy ToOpen =
      PreparedIf c.prepares (no_memory_by ToOpen) (IsOpenWord (opening c) c.caller.node c.caller.hash)
  IsWordBy ToOpenOrCreate = PreparedIf c.prepares (no_memory_by ToOpenOrCreate) (IsOpenOrCreateWord (rounds_of c))

  abbrev pub IsWordOf : List Letter → Result Registered (ErrorBy E C c.way) → Type 0
  IsWordOf = IsWordBy c.way

-- Both are grammars of the same words, with the same answers.
abbrev pub SameWords : {A : Type 0} (IsOne IsOther : List Letter → A → Type 0) → Type 0
SameWords {A} IsOne IsOther = (word : List Letter) (answer : A) → IsOne word answer ↔ IsOther word answer

-- The call leads a storage from one state to another, with this answer: along a word of it.
abbrev pub Calls : {S D E C : Type 0} (step : S → Letter → S → Type 0) (c : BuilderCall D E C)
    → S → Result Registered (ErrorBy E C c.way) → S → Type 0
Calls step c old answer new = Joins step old (λ word. IsWordOf c word answer) new
