-- What the word of a call makes, and what of that it gives back.
use Rattle.std.specs.Prelude.{◌≡◌, ℕ, Bool, false, List, [], ◌∷◌, ◌++◌, Option, Some, None, Result, Ok, Err, is_err}
use Rattle.iceoryx2_description.specs.declared.description.ServiceHash.{ServiceHash}
use Rattle.iceoryx2_description.specs.Description.{Description}
use Rattle.iceoryx2_access.specs.declared.storage.Existence.{Existence}
use Rattle.iceoryx2_access.specs.declared.storage.FetchError.{FetchError}
use Rattle.iceoryx2_access.specs.declared.storage.Tag.{Tag}
use Rattle.iceoryx2_access.specs.declared.storage.TagError.{TagError}
use Rattle.iceoryx2_access.specs.declared.storage.LockError.{LockError}
use Rattle.iceoryx2_access.specs.declared.storage.MakeSegmentError.{MakeSegmentError}
use Rattle.iceoryx2_access.specs.declared.storage.MakeSegmentError.TheVariants as make
use Rattle.iceoryx2_access.specs.declared.storage.RemoveError.{RemoveError}
use Rattle.iceoryx2_access.specs.declared.storage.PublishError.{PublishError}
use Rattle.iceoryx2_access.specs.declared.storage.OpenSegmentError.{OpenSegmentError}
use Rattle.iceoryx2_access.specs.Letter.{Letter, Exists, Fetch, Counts, MakeTag, RemoveTag, Lock, MakeSegment}
use Rattle.iceoryx2_access.specs.Letter.{RemoveSegment, RemoveDescription, Publish, OpenSegment}
use Rattle.iceoryx2_rounds.specs.GivesBack.{Owned, OwnTag, OwnLock, OwnSegment, own_tag, GivesBack}

-- what an access makes
abbrev pub made_by : Letter → List Owned
made_by (MakeTag i h (Ok tag)) = own_tag tag
made_by (Lock i h (Ok n)) = OwnLock ∷ []
made_by (MakeSegment i h n m (Ok a)) = OwnSegment ∷ []
made_by _ = []

-- what is made after a word where this was made before it, the last first
abbrev pub made_after : List Owned → List Letter → List Owned
made_after owned [] = owned
made_after owned (l ∷ word) = made_after (made_by l ++ owned) word

-- what a word makes
abbrev pub made : List Letter → List Owned
made word = made_after [] word

-- the number of the lock that a word got
abbrev pub number_got : List Letter → Option ℕ
number_got [] = None
number_got (Lock i h (Ok n) ∷ word) = Some n
number_got (_ ∷ word) = number_got word

-- A removal that is refused leaves its thing, and one that is granted doesn't.
abbrev pub left_by : Owned → Letter → (was_left : Bool) → Bool
left_by OwnTag (RemoveTag i h answer) was_left = is_err answer
left_by OwnLock (RemoveDescription i h answer) was_left = is_err answer
left_by OwnSegment (RemoveSegment i h answer) was_left = is_err answer
left_by _ _ was_left = was_left

abbrev pub left_after : (was_left : Bool) → List Letter → Owned → Bool
left_after was_left [] thing = was_left
left_after was_left (l ∷ word) thing = left_after (left_by thing l was_left) word thing

-- whether the last removal of such a thing in a word was refused
abbrev pub is_left : List Letter → Owned → Bool
is_left word thing = left_after false word thing

module _ (node : ℕ) (hash : ServiceHash) where
  module _ (number : ℕ) where
    -- An access of the call that removes nothing and gets no service, where this is made before: a tag comes first,
    -- then a lock, and then the segment under it. Each number is this one.
    pub data MayCome : (before : List Owned) → Letter → Type 0 where
      looks : {owned : List Owned} {answer : Existence} → MayCome owned (Exists hash answer)
      fetches : {owned : List Owned} {answer : Result (ℕ × List ℕ) FetchError}
          → MayCome owned (Fetch node hash answer)
      asks : {owned : List Owned} {answer : Bool} → MayCome owned (Counts node hash answer)
      makes_tag : {answer : Result Tag TagError} → MayCome [] (MakeTag node hash answer)
      locks : (tag : Tag) → MayCome (own_tag tag) (Lock node hash (Ok number))
      gets_no_lock : {owned : List Owned} {error : LockError} → MayCome owned (Lock node hash (Err error))
      makes_segment : (tag : Tag) {max_nodes : ℕ} {answer : Result (Unit {0}) MakeSegmentError}
          → MayCome (OwnLock ∷ own_tag tag) (MakeSegment node hash number max_nodes answer)
      publishes_nothing : {owned : List Owned} {d : Description} {error : PublishError}
          → MayCome owned (Publish node hash number d (Err error))
      opens_nothing : {owned : List Owned} {error : OpenSegmentError}
          → MayCome owned (OpenSegment node hash number (Err error))

    -- A word of such accesses. Under its lock, before it makes its own segment, it removes one of another that it
    -- found.
    pub data IsFront : (before : List Owned) → List Letter → Type 0 where
      ends : {owned : List Owned} → IsFront owned []
      goes_on : {owned : List Owned} {letter : Letter} {word : List Letter} → MayCome owned letter
          → IsFront (made_by letter ++ owned) word → IsFront owned (letter ∷ word)
      clears : (tag : Tag) {max_nodes : ℕ} {answer : Result (Unit {0}) RemoveError} {word : List Letter}
          → IsFront (OwnLock ∷ own_tag tag) word → IsFront (OwnLock ∷ own_tag tag)
          (MakeSegment node hash number max_nodes (Err make.AlreadyExists) ∷ RemoveSegment node hash answer ∷ word)

  -- A word that gives back what it makes: a front, and then a removal for each thing that this made.
  pub record GivesAllBack (word : List Letter) : Type 0 where
    pub number : ℕ
    pub front : List Letter
    pub back : List Letter
    pub in_order : word ≡ front ++ back
    pub is_front : IsFront number [] front
    pub gives_back : GivesBack node hash (made front) back

  -- A refused open: such words, one after the other, of which each makes a tag at most.
  pub data GivesTagsBack : List Letter → Type 0 where
    no_round : GivesTagsBack []
    one_more : {u v : List Letter} (tag : Tag) → GivesTagsBack u → (g : GivesAllBack v) → made g.front ≡ own_tag tag
        → GivesTagsBack (u ++ v)

  -- A granted create: a front that makes a tag, which may have been there, a lock and a segment, and then the service
  -- is published.
  pub record KeepsAll (word : List Letter) (number : ℕ) : Type 0 where
    pub front : List Letter
    pub tag : Tag
    pub d : Description
    pub ticket : ℕ
    pub in_order : word ≡ front ++ Publish node hash number d (Ok ticket) ∷ []
    pub is_front : IsFront number [] front
    pub makes : made front ≡ OwnSegment ∷ OwnLock ∷ own_tag tag

  -- A granted open: after rounds that give back what they make a front that makes its tag, which may have been there,
  -- and then the service is opened.
  pub record KeepsLastTag (word : List Letter) (number : ℕ) : Type 0 where
    pub before : List Letter
    pub front : List Letter
    pub tag : Tag
    pub ticket : ℕ
    pub in_order : word ≡ before ++ (front ++ OpenSegment node hash number (Ok ticket) ∷ [])
    pub gives_back : GivesTagsBack before
    pub is_front : IsFront number [] front
    pub makes : made front ≡ own_tag tag
