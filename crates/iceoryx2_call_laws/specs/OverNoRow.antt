-- What a create of which no access is refused answers where its service has no row, whatever segment an earlier refusal
-- left there.
use Rattle.std.specs.Prelude.{◌≡◌, ◌<◌, ◌≤◌, ℕ, Bool, true, false, List, [], Some, None, Result, Ok, Err}
use Rattle.iceoryx2_description.specs.Description.{max_nodes_of}
use Rattle.iceoryx2_access.specs.Letter.{Letter}
use Rattle.iceoryx2_access.specs.Registered.{Registered}
use Rattle.iceoryx2_access.specs.Run.{Run}
use Rattle.iceoryx2_testing.specs.Faults.{FaultyState, IsInjectedFault, RefusesNone}
use Rattle.iceoryx2_world.specs.World.{row_of}
use Rattle.iceoryx2_world.specs.Steps.{last_number}
use Rattle.iceoryx2_world.specs.Agreement.{Agrees}
use Rattle.iceoryx2_world.specs.Tables.{TableState, IsTableAccess}
use Rattle.iceoryx2_rounds.specs.declared.pattern.CreateRefusal.TheVariants.{InternalFailure, OutOfMemory}
use Rattle.iceoryx2_rounds.specs.PatternRules.{PatternRules}
use Rattle.iceoryx2_rounds.specs.declared.caller.Caller.{Caller}
use Rattle.iceoryx2_rounds.specs.Creates.{clock_stops, description_of, time_of}
use Rattle.iceoryx2_rounds.specs.Prepared.{IsCreateCall}

-- A create for one node or more, along this word over a table that refuses accesses: its service has no row there, no
-- batch waits, and none of its accesses is refused.
pub record CreatesOverNoRow {E C : Type 0} (m : PatternRules E C) (caller : Caller) (s : FaultyState TableState)
    (word : List Letter) (answer : Result Registered C) (t : FaultyState TableState) : Type 0 where
  pub some_nodes : 0 < max_nodes_of (m.published (time_of caller.clock))
  pub agrees : Agrees s.inner.world
  pub no_row : row_of s.inner.world caller.hash ≡ None
  pub idle : s.inner.waiting ≡ []
  pub unrefused : RefusesNone s word
  pub is_word : IsCreateCall m caller word answer
  pub run : Run (IsInjectedFault IsTableAccess) s word t

module _ {E C : Type 0} (m : PatternRules E C) (caller : Caller) (counter : ℕ) where
  abbrev stops : Bool
  stops = clock_stops m.needs_clock caller.clock

  -- Ok with the next number, or one of four things is in the way.
  pub data AnswersOverNoRow : Result Registered C → Type 0 where
    made : m.settings_refusal ≡ None → stops ≡ false → counter < last_number
        → AnswersOverNoRow (Ok (record {
          node = caller.node;
          number = counter;
          ticket = counter;
          description = description_of m caller;
        }))
    -- the history rule
    forbidden : {error : C} → m.settings_refusal ≡ Some error → AnswersOverNoRow (Err error)
    -- a clock fault
    no_time : m.settings_refusal ≡ None → stops ≡ true
        → AnswersOverNoRow (Err (m.create_refusal InternalFailure))
    -- the counter's end
    no_number : m.settings_refusal ≡ None → stops ≡ false → last_number ≤ counter
        → AnswersOverNoRow (Err (m.create_refusal InternalFailure))
    -- out of memory, for the types of messages also before the history rule
    no_memory : AnswersOverNoRow (Err (m.create_refusal OutOfMemory))
