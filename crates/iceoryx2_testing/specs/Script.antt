-- A storage that answers from a list.
use Rattle.std.specs.Prelude.{◌≡◌, Bool, true, false, List, [], ◌∷◌}
use Rattle.iceoryx2_access.specs.Letter.{Letter, fetch_answer}
use Rattle.iceoryx2_access.specs.Letter as letter
use Rattle.iceoryx2_access.specs.MayRefuse.{IsFault}
use Rattle.iceoryx2_testing.specs.declared.script.Answer.{Answer}
use Rattle.iceoryx2_testing.specs.declared.script.Answer.TheVariants as answer
use Rattle.iceoryx2_testing.specs.declared.script.counters.Counters.{Counters}
use Rattle.iceoryx2_testing.specs.Counters.{counters_after}

-- the answers that weren't taken, in order, and how often was asked
pub record ScriptState : Type 0 where
  pub remaining : List Answer
  pub counters : Counters

-- The answer is of the access's kind.
abbrev pub is_for : Letter → Answer → Bool
is_for (letter.Exists h a) (answer.Exists b) = true
is_for (letter.Fetch i h a) (answer.Fetch b) = true
is_for (letter.Counts i h a) (answer.Counts b) = true
is_for (letter.MakeTag i h a) (answer.MakeTag b) = true
is_for (letter.RemoveTag i h a) (answer.RemoveTag b) = true
is_for (letter.Lock i h a) (answer.Lock b) = true
is_for (letter.MakeSegment i h n m a) (answer.MakeSegment b) = true
is_for (letter.RemoveSegment i h a) (answer.RemoveSegment b) = true
is_for (letter.RemoveDescription i h a) (answer.RemoveDescription b) = true
is_for (letter.Publish i h n d a) (answer.Publish b) = true
is_for (letter.OpenSegment i h n a) (answer.OpenSegment b) = true
is_for (letter.Release t i h n a) (answer.Release b) = true
is_for _ _ = false

-- The access answers this.
abbrev pub HasAnswer : Letter → Answer → Type 0
HasAnswer (letter.Exists h a) (answer.Exists b) = a ≡ b
HasAnswer (letter.Fetch i h a) (answer.Fetch b) = a ≡ fetch_answer b
HasAnswer (letter.Counts i h a) (answer.Counts b) = a ≡ b
HasAnswer (letter.MakeTag i h a) (answer.MakeTag b) = a ≡ b
HasAnswer (letter.RemoveTag i h a) (answer.RemoveTag b) = a ≡ b
HasAnswer (letter.Lock i h a) (answer.Lock b) = a ≡ b
HasAnswer (letter.MakeSegment i h n m a) (answer.MakeSegment b) = a ≡ b
HasAnswer (letter.RemoveSegment i h a) (answer.RemoveSegment b) = a ≡ b
HasAnswer (letter.RemoveDescription i h a) (answer.RemoveDescription b) = a ≡ b
HasAnswer (letter.Publish i h n d a) (answer.Publish b) = a ≡ b
HasAnswer (letter.OpenSegment i h n a) (answer.OpenSegment b) = a ≡ b
HasAnswer (letter.Release t i h n a) (answer.Release b) = a ≡ b
HasAnswer _ _ = ⊥

-- A front of the access's kind is answered and taken; at another the access fails, and it stays.
abbrev pub MeetsFront : Bool → Letter → Answer → List Answer → List Answer → Type 0
MeetsFront true l front rest remaining = HasAnswer l front × (remaining ≡ rest)
MeetsFront false l front rest remaining = IsFault l × (remaining ≡ front ∷ rest)

-- What an access leaves of the answers.
abbrev pub Takes : List Answer → Letter → List Answer → Type 0
Takes [] l remaining = IsFault l × (remaining ≡ [])
Takes (front ∷ rest) l remaining = MeetsFront (is_for l front) l front rest remaining

pub record IsScriptAccess (old : ScriptState) (l : Letter) (new : ScriptState) : Type 0 where
  pub takes : Takes old.remaining l new.remaining
  pub counters : new.counters ≡ counters_after l old.counters
