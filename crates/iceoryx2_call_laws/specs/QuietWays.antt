-- Every call of a builder by the quiet machine.
use Rattle.std.specs.Prelude.{◌≡◌, Some, None, Result}
use Rattle.iceoryx2_access.specs.Registered.{Registered}
use Rattle.iceoryx2_rounds.specs.Answers.{map_err}
use Rattle.iceoryx2_rounds.specs.BuilderCalls.{BuilderCall, Way, ToCreate, ToOpen, ToOpenOrCreate, ErrorBy}
use Rattle.iceoryx2_rounds.specs.BuilderCalls.{creating, opening, rounds_of}
use Rattle.iceoryx2_rounds.specs.CallWords.{no_memory_by}
use Rattle.iceoryx2_rounds.specs.declared.open_or_create.OpenOrCreateRefusal.{OpenOrCreateRefusal}
use Rattle.iceoryx2_rounds.specs.declared.open_or_create.OpenOrCreateRefusal.TheVariants as refusal
use Rattle.iceoryx2_call_laws.specs.Quiet.{Quiet, QuietService, service_at}
use Rattle.iceoryx2_call_laws.specs.QuietCalls.{Creates, Opens}
use Rattle.iceoryx2_call_laws.specs.QuietPrepared.{PreparesFirstIf}

module _ {D E C : Type 0} (c : BuilderCall D E C) where
  -- Where the service isn't there an open or create is a create, and else an open.
  pub data OpensOrCreates (q : Quiet) : Result Registered (OpenOrCreateRefusal E C) → Quiet → Type 0 where
    creates : {answer : Result Registered C} {p : Quiet} → service_at q c.caller.hash ≡ None
        → Creates (creating c) q c.caller answer p
        → OpensOrCreates q (map_err refusal.Create answer) p
    opens : {answer : Result Registered E} {p : Quiet} (x : QuietService) → service_at q c.caller.hash ≡ Some x
        → Opens (opening c) q c.caller.node c.caller.hash answer p
        → OpensOrCreates q (map_err refusal.Open answer) p

module _ {D E C : Type 0} (c : BuilderCall D E C) where
  -- The machine's answers to the call, and the machine after each.
  abbrev pub Answers : (way : Way) → Quiet → Result Registered (ErrorBy E C way) → Quiet → Type 0
  Answers ToCreate q = PreparesFirstIf c.prepares (no_memory_by c ToCreate) q (Creates (creating c) q c.caller)
  Answers ToOpen q =
      PreparesFirstIf c.prepares (no_memory_by c ToOpen) q (Opens (opening c) q c.caller.node c.caller.hash)
  Answers ToOpenOrCreate q =
      PreparesFirstIf c.prepares (no_memory_by c ToOpenOrCreate) q (OpensOrCreates (rounds_of c) q)
