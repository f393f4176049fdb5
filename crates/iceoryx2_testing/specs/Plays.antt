-- What a word of accesses takes of a script.
use Rattle.std.specs.Prelude.{◌≡◌, false, List, [], ◌∷◌, ◌++◌}
use Rattle.iceoryx2_access.specs.Letter.{Letter}
use Rattle.iceoryx2_access.specs.MayRefuse.{IsFault}
use Rattle.iceoryx2_access.specs.Run.{Run}
use Rattle.iceoryx2_testing.specs.declared.script.Answer.{Answer}
use Rattle.iceoryx2_testing.specs.Script.{ScriptState, IsScriptAccess, HasAnswer, is_for}

-- No answer is left, or the front is of another kind.
abbrev pub Lacks : Letter → List Answer → Type 0
Lacks l [] = Unit {0}
Lacks l (front ∷ rest) = is_for l front ≡ false

-- Each access has taken the next of these answers, or has found none of its kind in front and failed. `remaining` is
-- what stands behind them.
pub data Plays (remaining : List Answer) : List Letter → List Answer → Type 0 where
  end : Plays remaining [] []
  takes : {l : Letter} {word : List Letter} {front : Answer} {taken : List Answer}
      → HasAnswer l front → Plays remaining word taken → Plays remaining (l ∷ word) (front ∷ taken)
  fails : {l : Letter} {word : List Letter} {taken : List Answer}
      → Lacks l (taken ++ remaining) → IsFault l → Plays remaining word taken → Plays remaining (l ∷ word) taken

-- The answers before are those that the word took, and behind them those that are left.
pub record PlaysFront (old : List Answer) (word : List Letter) (remaining : List Answer) : Type 0 where
  pub taken : List Answer
  pub front : old ≡ taken ++ remaining
  pub plays : Plays remaining word taken

-- The answers that a run takes are a front of those before it, in the order of the accesses that answered them, and the
-- rest is left.
abbrev pub EachRunPlays : Type 0
EachRunPlays = (a b : ScriptState) (word : List Letter)
    → Run IsScriptAccess a word b → PlaysFront a.remaining word b.remaining
