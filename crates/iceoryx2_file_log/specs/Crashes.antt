-- What a crash of the machine leaves of a log's bytes, from the header's end on.
use Rattle.std.specs.Prelude.{ℕ, ◌+◌, ◌≡◌, ◌≤◌, ◌⊎◌, List, [], ◌∷◌, ◌++◌, length, take, drop, max, Result, Ok}
use Rattle.iceoryx2_log.specs.declared.entry.Entry.{Entry}
use Rattle.iceoryx2_log.specs.Form.{IsForm, Begins}
use Rattle.iceoryx2_file_log.specs.declared.remainder.Front.{Front}
use Rattle.iceoryx2_file_log.specs.declared.remainder.Front.TheVariants.{Torn, Damaged}
use Rattle.iceoryx2_file_log.specs.Compaction.{AreForms}

-- ---- what bytes stand for

abbrev pub BeginsWithNone : List ℕ → Type 0
BeginsWithNone bytes = (e : Entry) (count : ℕ) → Begins bytes e count → ⊥

abbrev pub BeginsWithNoOther : Entry → List ℕ → Type 0
BeginsWithNoOther e bytes = (d : Entry) (count : ℕ) → Begins bytes d count → d ≡ e

-- The bytes are the forms of these entries, one after the other, and then a rest that begins with no entry.
pub record StandsFor (bytes : List ℕ) (entries : List Entry) (rest : List ℕ) : Type 0 where
  pub forms : List ℕ
  pub are_forms : AreForms entries forms
  pub parts : bytes ≡ forms ++ rest
  pub no_more : BeginsWithNone rest

-- They stand for these entries and this rest, or for these and one more, and nothing else.
abbrev pub StandsWithOrWithout : List Entry → Entry → (rest : List ℕ) → List ℕ → Type 0
StandsWithOrWithout entries e rest bytes = StandsFor bytes entries rest ⊎ StandsFor bytes (entries ++ e ∷ []) []

-- What a reader makes of a rest that begins with no entry: it is torn, or damaged.
abbrev pub EndsAt : {E : Type 0} → Result Front E → Type 0
EndsAt (Ok Torn) = Unit {0}
EndsAt (Ok Damaged) = Unit {0}
EndsAt other = ⊥

-- ---- what a device may leave

-- A crash within a write of n bytes leaves any bytes in the range that was written and past the old end, and elsewhere
-- the old ones.
pub record MayLeave (at n : ℕ) (old new : List ℕ) : Type 0 where
  pub before : take at new ≡ take at old
  pub after : drop (at + n) new ≡ drop (at + n) old
  pub no_shorter : length old ≤ length new
  pub no_longer : length new ≤ max (length old) (at + n)

-- A crash within a cut to n bytes leaves some length between.
pub record MayLeaveOfCut (n : ℕ) (old new : List ℕ) : Type 0 where
  pub no_shorter : n ≤ length new
  pub front : take (length new) old ≡ new

-- ---- the laws

-- Bytes stand for one list of entries only.
abbrev pub OneListEach : Type 0
OneListEach = (bytes : List ℕ) (entries others : List Entry) (rest other : List ℕ)
    → StandsFor bytes entries rest → StandsFor bytes others other → (entries ≡ others) × (rest ≡ other)

-- An entry is appended to bytes that stand for some, with nothing else left. A crash at any moment of that write leaves
-- bytes that stand for those, or for those and this one, as long as what it leaves in the range that was written begins
-- with no other entry than this one.
abbrev pub AppendsOrNot : Type 0
AppendsOrNot = (entries : List Entry) (e : Entry) (old form new : List ℕ)
    → StandsFor old entries [] → IsForm e form
    → MayLeave (length old) (length form) old new → BeginsWithNoOther e (drop (length old) new)
    → StandsWithOrWithout entries e (drop (length old) new) new

-- A front of an entry's form begins with no other entry. So what a process leaves that is killed within an append meets
-- the premise above.
abbrev pub FrontsFit : Type 0
FrontsFit = (e : Entry) (written missing : List ℕ) → IsForm e (written ++ missing) → BeginsWithNoOther e written

-- When all of the entry's form is written, the bytes stand for those and this one, and nothing else is left.
abbrev pub AppendsWhenWritten : Type 0
AppendsWhenWritten = (entries : List Entry) (e : Entry) (old form : List ℕ)
    → StandsFor old entries [] → IsForm e form → StandsFor (old ++ form) (entries ++ e ∷ []) []

-- Entries were appended to bytes that stand for some, each synchronized before the next was written, and a crash comes
-- within the append of one more. It leaves those that stood, all that were appended, and that one or not.
abbrev pub KeepsAppended : Type 0
KeepsAppended = (entries appended : List Entry) (e : Entry) (old forms form new : List ℕ)
    → StandsFor old entries [] → AreForms appended forms → IsForm e form
    → MayLeave (length (old ++ forms)) (length form) (old ++ forms) new
    → BeginsWithNoOther e (drop (length (old ++ forms)) new)
    → StandsWithOrWithout (entries ++ appended) e (drop (length (old ++ forms)) new) new

-- The rest is cut off, or a part of it. A crash at any moment of that leaves bytes that stand for the same entries.
abbrev pub CutsNoEntry : Type 0
CutsNoEntry = (entries : List Entry) (at : ℕ) (old rest new : List ℕ)
    → StandsFor old entries rest → length old ≡ at + length rest
    → MayLeaveOfCut at old new → StandsFor new entries (drop at new)

-- The last entry is cut off, as a mark is. A crash at any moment of that leaves bytes that stand for those before it,
-- or for those and this one.
abbrev pub CutsOrNot : Type 0
CutsOrNot = (entries : List Entry) (e : Entry) (old form new : List ℕ)
    → StandsFor old entries [] → IsForm e form → MayLeaveOfCut (length old) (old ++ form) new
    → StandsWithOrWithout entries e (drop (length old) new) new

-- No entry is skipped: bytes that stand for some begin with the first of them, and the bytes after it stand for the
-- others.
abbrev pub NoneSkipped : Type 0
NoneSkipped = (bytes : List ℕ) (e : Entry) (entries : List Entry) (rest : List ℕ)
    → StandsFor bytes (e ∷ entries) rest
    → (count : ℕ) × Begins bytes e count × StandsFor (drop count bytes) entries rest

-- None is invented: where bytes begin with an entry it is the first of those that they stand for.
abbrev pub NoneInvented : Type 0
NoneInvented = (bytes : List ℕ) (e : Entry) (count : ℕ) (entries : List Entry) (rest : List ℕ)
    → StandsFor bytes entries rest → Begins bytes e count
    → (others : List Entry) × (entries ≡ e ∷ others) × StandsFor (drop count bytes) others rest
