-- What an entry makes of a world: its node's access, with the answer that the entry has.
use Rattle.std.specs.Prelude.{◌≡◌, ◌⊎◌, ℕ, List, Result, Ok, Err}
use Rattle.iceoryx2_description.specs.declared.description.ServiceHash.{ServiceHash}
use Rattle.iceoryx2_description.specs.Description.{Description}
use Rattle.iceoryx2_data.specs.Form.{IsForm}
use Rattle.iceoryx2_access.specs.declared.storage.FetchError.{FetchError}
use Rattle.iceoryx2_access.specs.declared.storage.LockError.{LockError}
use Rattle.iceoryx2_access.specs.declared.storage.LockError.TheVariants as Locking
use Rattle.iceoryx2_access.specs.declared.storage.MakeSegmentError.{MakeSegmentError}
use Rattle.iceoryx2_access.specs.declared.storage.MakeSegmentError.TheVariants as Making
use Rattle.iceoryx2_access.specs.declared.storage.OpenSegmentError.{OpenSegmentError}
use Rattle.iceoryx2_access.specs.declared.storage.OpenSegmentError.TheVariants as Opening
use Rattle.iceoryx2_access.specs.declared.storage.PublishError.{PublishError}
use Rattle.iceoryx2_access.specs.declared.storage.PublishError.TheVariants as Publishing
use Rattle.iceoryx2_access.specs.declared.storage.Release.{Release as Released}
use Rattle.iceoryx2_access.specs.declared.storage.ReleaseError.{ReleaseError}
use Rattle.iceoryx2_access.specs.declared.storage.RemoveError.{RemoveError}
use Rattle.iceoryx2_access.specs.declared.storage.Tag.{Tag}
use Rattle.iceoryx2_access.specs.declared.storage.Tag.TheVariants.{Made}
use Rattle.iceoryx2_access.specs.declared.storage.TagError.{TagError}
use Rattle.iceoryx2_access.specs.declared.storage.TagError.TheVariants as Tagging
use Rattle.iceoryx2_access.specs.Letter.{Letter, acting_node}
use Rattle.iceoryx2_access.specs.Letter as letter
use Rattle.iceoryx2_access.specs.Run.{Joins, Each}
use Rattle.iceoryx2_world.specs.World.{World}
use Rattle.iceoryx2_world.specs.Access.{IsOwnPart}
use Rattle.iceoryx2_table.specs.Spending.{Spends}
use Rattle.iceoryx2_log.specs.declared.entry.Operation.{Operation}
use Rattle.iceoryx2_log.specs.declared.entry.Operation.TheVariants as operation
use Rattle.iceoryx2_log.specs.declared.entry.Entry.{Entry}
use Rattle.iceoryx2_journal.specs.declared.follow.FollowError.{FollowError}
use Rattle.iceoryx2_journal.specs.declared.follow.FollowError.TheVariants as errors

-- The letter is this operation of the node, granted: with the operation's numbers, for a publishing with a description
-- whose byte form the operation has, and for a release with any answer that isn't an error. Numbers are spent by no
-- single letter.
abbrev pub Grants : (node : ℕ) → ServiceHash → Operation → Letter → Type 0
Grants i h operation.MakeTag l = l ≡ letter.MakeTag i h (Ok Made)
Grants i h operation.RemoveTag l = l ≡ letter.RemoveTag i h (Ok tt)
Grants i h (operation.Lock n) l = l ≡ letter.Lock i h (Ok n)
Grants i h (operation.MakeSegment n nodes) l = l ≡ letter.MakeSegment i h n nodes (Ok tt)
Grants i h operation.RemoveSegment l = l ≡ letter.RemoveSegment i h (Ok tt)
Grants i h operation.RemoveDescription l = l ≡ letter.RemoveDescription i h (Ok tt)
Grants i h (operation.Publish n bytes) l = (d : Description) × IsForm d bytes × (l ≡ letter.Publish i h n d (Ok n))
Grants i h (operation.OpenSegment n ticket) l = l ≡ letter.OpenSegment i h n (Ok ticket)
Grants i h (operation.Release ticket n) l = (left : Released) × (l ≡ letter.Release ticket i h n (Ok left))
Grants i h (operation.Spend n) l = ⊥
Grants i h operation.Moved l = ⊥

-- The letter is this operation of the node, whatever it is answered.
abbrev pub Asks : (node : ℕ) → ServiceHash → Operation → Letter → Type 0
Asks i h operation.MakeTag l = (a : Result Tag TagError) × (l ≡ letter.MakeTag i h a)
Asks i h operation.RemoveTag l = (a : Result (Unit {0}) RemoveError) × (l ≡ letter.RemoveTag i h a)
Asks i h (operation.Lock n) l = (a : Result ℕ LockError) × (l ≡ letter.Lock i h a)
Asks i h (operation.MakeSegment n nodes) l =
    (a : Result (Unit {0}) MakeSegmentError) × (l ≡ letter.MakeSegment i h n nodes a)
Asks i h operation.RemoveSegment l = (a : Result (Unit {0}) RemoveError) × (l ≡ letter.RemoveSegment i h a)
Asks i h operation.RemoveDescription l = (a : Result (Unit {0}) RemoveError) × (l ≡ letter.RemoveDescription i h a)
Asks i h (operation.Publish n bytes) l =
    (d : Description) × (a : Result ℕ PublishError) × IsForm d bytes × (l ≡ letter.Publish i h n d a)
Asks i h (operation.OpenSegment n ticket) l = (a : Result ℕ OpenSegmentError) × (l ≡ letter.OpenSegment i h n a)
Asks i h (operation.Release ticket n) l = (a : Result Released ReleaseError) × (l ≡ letter.Release ticket i h n a)
Asks i h (operation.Spend n) l = ⊥
Asks i h operation.Moved l = ⊥

-- It is answered for want of memory.
abbrev pub LacksMemory : Letter → Type 0
LacksMemory (letter.MakeTag i h a) = a ≡ Err Tagging.OutOfMemory
LacksMemory (letter.Lock i h a) = a ≡ Err Locking.OutOfMemory
LacksMemory (letter.MakeSegment i h n nodes a) = a ≡ Err Making.OutOfMemory
LacksMemory (letter.Publish i h n d a) = a ≡ Err Publishing.OutOfMemory
LacksMemory (letter.OpenSegment i h n a) = a ≡ Err Opening.OutOfMemory
LacksMemory _ = ⊥

-- The letter is the entry's access, granted.
abbrev pub IsEntryOf : Entry → Letter → Type 0
IsEntryOf e l = Grants e.node e.hash e.operation l

-- The node fetches the description, whatever the answer, or need not.
abbrev pub MayFetch : (node : ℕ) → ServiceHash → World → World → Type 0
MayFetch i h old new =
    (new ≡ old) ⊎ ((a : Result (ℕ × List ℕ) FetchError) × IsOwnPart old (letter.Fetch i h a) new)

-- What comes before a operation's access: an opening's node may fetch, which is in no entry.
abbrev pub Prepares : (node : ℕ) → ServiceHash → Operation → World → World → Type 0
Prepares i h (operation.OpenSegment n ticket) old new = MayFetch i h old new
Prepares i h _ old new = new ≡ old

-- The entry has its effect: its node's access is granted as the entry has it, or its node spends numbers.
pub data IsFollowed (old : World) (e : Entry) (new : World) : Type 0 where
  granted : (ready : World) (l : Letter) → Prepares e.node e.hash e.operation old ready → IsEntryOf e l
      → IsOwnPart ready l new → IsFollowed old e new
  spent : (n : ℕ) → e.operation ≡ operation.Spend n → Spends e.node e.hash n old new → IsFollowed old e new

-- The world doesn't answer what the entry has: its node's access is answered otherwise, and not for want of memory, its
-- bytes are of no description, its numbers can't be spent, or it is a mark.
pub data Differs (old : World) (e : Entry) (new : World) : Type 0 where
  answered : (ready : World) (l : Letter)
      → Prepares e.node e.hash e.operation old ready → Asks e.node e.hash e.operation l
      → (IsEntryOf e l → ⊥) → (LacksMemory l → ⊥) → IsOwnPart ready l new → Differs old e new
  malformed : (n : ℕ) (bytes : List ℕ)
      → e.operation ≡ operation.Publish n bytes → ((d : Description) → IsForm d bytes → ⊥)
      → new ≡ old → Differs old e new
  unspent : (n : ℕ) → e.operation ≡ operation.Spend n → ((v : World) → Spends e.node e.hash n old v → ⊥) → new ≡ old
      → Differs old e new
  mark : e.operation ≡ operation.Moved → new ≡ old → Differs old e new

-- There are accesses of this node and of no other, with whatever answers.
abbrev pub ActsAlone : (node : ℕ) → World → World → Type 0
ActsAlone i old new = Joins IsOwnPart old (Each (λ l. acting_node l ≡ i)) new

-- What following an entry comes to, by how it ends. Without memory nothing was done but what comes before the access.
abbrev pub Follows : Entry → Result (Unit {0}) FollowError → World → World → Type 0
Follows e (Ok x) old new = IsFollowed old e new
Follows e (Err errors.OutOfMemory) old new = Prepares e.node e.hash e.operation old new
Follows e (Err errors.Disagrees) old new = Differs old e new

-- By what an access answered: it is granted so; it is an error, where memory is wanted; or it is neither granted so nor
-- wants memory.
abbrev pub Judges : (is_granted is_refused is_want : Type 0) → Result (Unit {0}) FollowError → Type 0
Judges is_granted is_refused is_want (Ok x) = is_granted
Judges is_granted is_refused is_want (Err errors.OutOfMemory) = is_refused
Judges is_granted is_refused is_want (Err errors.Disagrees) = (is_granted → ⊥) × (is_want → ⊥)
