-- The lines of a reply.
use Rattle.std.specs.Prelude.{◌≡◌, ◌≢◌, ℕ, List, [], ◌∷◌, ◌++◌, Option, All, true, false, nat_eq, codes, length}
use Rattle.std.specs.List.{starts_with}
use Rattle.std.specs.Io.KnownBytes.{Appends, Consumes}
use Rattle.iceoryx2_postgres_log.specs.declared.fault.PostgresFault.{PostgresFault}
use Rattle.iceoryx2_postgres_log.specs.Faults.{state_fault}

-- No line ends within these bytes.
abbrev pub IsPart : List ℕ → Type 0
IsPart bytes = All (λ b. b ≢ 10) bytes

-- the bytes of lines, each with its end
abbrev pub told : List (List ℕ) → List ℕ
told [] = []
told (line ∷ lines) = line ++ 10 ∷ told lines

-- It is a line that doesn't begin with the mark.
abbrev pub IsRowBefore : List ℕ → List ℕ → Type 0
IsRowBefore mark line = IsPart line × (starts_with nat_eq line mark ≡ false)

-- The lines up to the first one that begins with the mark are read, and nothing behind them.
pub record Hears (mark : List ℕ) (rows : List (List ℕ)) (end : List ℕ) (old new : Option (List ℕ)) : Type 0 where
  pub bytes : Consumes old new (told rows ++ (end ++ 10 ∷ []))
  pub before : All (IsRowBefore mark) rows
  pub line : IsPart end
  pub marked : starts_with nat_eq end mark ≡ true

-- The question was written, and its reply read: these rows, and this end.
pub record Asks (question mark : List ℕ) (rows : List (List ℕ)) (end : List ℕ)
    (written wrote unread left : Option (List ℕ)) : Type 0 where
  pub asked : Appends written wrote question
  pub heard : Hears mark rows end unread left

-- The lines are one row and an end.
abbrev pub IsExactly : List (List ℕ) → List ℕ → List ℕ → List ℕ → Type 0
IsExactly rows end row last = (rows ≡ row ∷ []) × (end ≡ last)

-- The last line is the mark, a space and an SQLSTATE.
abbrev pub EndsWith : List ℕ → List ℕ → List ℕ → Type 0
EndsWith mark end state = end ≡ mark ++ 32 ∷ state

-- The server refused by this fault: one row, whatever it tells, and the mark with another SQLSTATE than 00000.
pub record Refuses (mark : List ℕ) (rows : List (List ℕ)) (end : List ℕ) (why : PostgresFault) : Type 0 where
  pub state : List ℕ
  pub ends : EndsWith mark end state
  pub long : length state ≡ 5
  pub other : state ≢ codes "00000"
  pub one : length rows ≡ 1
  pub why_is : why ≡ state_fault state
