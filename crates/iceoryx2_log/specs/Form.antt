-- The byte form of an entry. All numbers are big-endian.
use Rattle.std.specs.Prelude.{ℕ, ◌≡◌, ◌+◌, ◌^◌, ◌<◌, ◌≤◌, ◌⊎◌, List, [], ◌∷◌, ◌++◌, length, take, All}
use Rattle.std.specs.Int.{w32, to_be_bytes, bit_not}
use Rattle.sha1.specs.Sha1.{sha1}
use Rattle.iceoryx2_data.specs.PartForm.{number}
use Rattle.iceoryx2_description.specs.Description.{IsHash}
use Rattle.iceoryx2_log.specs.declared.entry.Operation.{Operation}
use Rattle.iceoryx2_log.specs.declared.entry.Operation.TheVariants.{MakeTag, RemoveTag, Lock, MakeSegment, RemoveSegment}
use Rattle.iceoryx2_log.specs.declared.entry.Operation.TheVariants.{RemoveDescription, Publish, OpenSegment, Release, Spend, Moved}
use Rattle.iceoryx2_log.specs.declared.entry.Entry.{Entry}
use Rattle.iceoryx2_log.specs.declared.form.TheConstants.{HEADER_LENGTH, SUM_LENGTH, MIN_BODY_LENGTH, MAX_BODY_LENGTH}

-- ---- what has a form

-- Its numbers are of 64 bits, and its bytes are bytes.
abbrev pub IsOperation : Operation → Type 0
IsOperation MakeTag = Unit {0}
IsOperation RemoveTag = Unit {0}
IsOperation (Lock n) = n < 2 ^ 64
IsOperation (MakeSegment n nodes) = (n < 2 ^ 64) × (nodes < 2 ^ 64)
IsOperation RemoveSegment = Unit {0}
IsOperation RemoveDescription = Unit {0}
IsOperation (Publish n bytes) = (n < 2 ^ 64) × All (λ b. b < 256) bytes
IsOperation (OpenSegment n ticket) = (n < 2 ^ 64) × (ticket < 2 ^ 64)
IsOperation (Release ticket n) = (ticket < 2 ^ 64) × (n < 2 ^ 64)
IsOperation (Spend n) = n < 2 ^ 64
IsOperation Moved = Unit {0}

pub record IsEntry (e : Entry) : Type 0 where
  pub node : e.node < 2 ^ 64
  pub hash : IsHash e.hash
  pub operation : IsOperation e.operation

-- ---- the body

abbrev pub kind : Operation → ℕ
kind MakeTag = 1
kind RemoveTag = 2
kind (Lock n) = 3
kind (MakeSegment n nodes) = 4
kind RemoveSegment = 5
kind RemoveDescription = 6
kind (Publish n bytes) = 7
kind (OpenSegment n ticket) = 8
kind (Release ticket n) = 9
kind (Spend n) = 10
kind Moved = 11

-- the operation's numbers in order, and a description's bytes
abbrev pub details : Operation → List ℕ
details MakeTag = []
details RemoveTag = []
details (Lock n) = number n
details (MakeSegment n nodes) = number n ++ number nodes
details RemoveSegment = []
details RemoveDescription = []
details (Publish n bytes) = number n ++ bytes
details (OpenSegment n ticket) = number n ++ number ticket
details (Release ticket n) = number ticket ++ number n
details (Spend n) = number n
details Moved = []

abbrev pub body : Entry → List ℕ
body e = kind e.operation ∷ number e.node ++ e.hash.0 ++ details e.operation

-- ---- what stands before the body

-- its length, and the same with its bits inverted
abbrev pub header : ℕ → List ℕ
header n = to_be_bytes w32 n ++ to_be_bytes w32 (bit_not w32 n)

-- the first bytes of the SHA-1 of length and body
abbrev pub sum_of : List ℕ → List ℕ
sum_of bytes = take SUM_LENGTH (sha1 (to_be_bytes w32 (length bytes) ++ bytes))

abbrev pub sealed : List ℕ → List ℕ
sealed bytes = header (length bytes) ++ sum_of bytes ++ bytes

abbrev pub IsLength : ℕ → Type 0
IsLength n = (MIN_BODY_LENGTH ≤ n) × (n ≤ MAX_BODY_LENGTH)

-- The bytes are the byte form of the entry, nothing before them or behind.
pub record IsForm (e : Entry) (bytes : List ℕ) : Type 0 where
  pub limits : IsEntry e
  pub short : length (body e) ≤ MAX_BODY_LENGTH
  pub is : bytes ≡ sealed (body e)

-- The bytes begin with the form of the entry, which has so many bytes. Anything may stand behind it.
pub record Begins (bytes : List ℕ) (e : Entry) (count : ℕ) : Type 0 where
  pub form : List ℕ
  pub rest : List ℕ
  pub is_form : IsForm e form
  pub parts : bytes ≡ form ++ rest
  pub counted : count ≡ length form

-- ---- cut short

-- A whole header is there, and fewer bytes behind it than it says.
pub record LacksBody (bytes : List ℕ) : Type 0 where
  pub announced : ℕ
  pub rest : List ℕ
  pub is_length : IsLength announced
  pub parts : bytes ≡ header announced ++ rest
  pub lacks : length rest < SUM_LENGTH + announced

-- The bytes end before an entry does: within its header, or behind one that says that more is to come.
abbrev pub IsCutShort : List ℕ → Type 0
IsCutShort bytes = (length bytes < HEADER_LENGTH) ⊎ LacksBody bytes
