-- The byte form of what stands before a log's entries.
use Rattle.std.specs.Prelude.{ℕ, ◌≡◌, ◌<◌, ◌^◌, List, [], ◌∷◌, ◌++◌, length, take, codes, All}
use Rattle.sha1.specs.Sha1.{sha1}
use Rattle.iceoryx2_data.specs.PartForm.{number}
use Rattle.iceoryx2_file_log.specs.declared.header.TheConstants.{HEADER_LENGTH, SUM_LENGTH, NAME_LENGTH, VERSION}
use Rattle.iceoryx2_file_log.specs.declared.header.Header.{Header}

-- what has a form: a name of bytes, and numbers of 64 bits
pub record IsHeader (h : Header) : Type 0 where
  pub name : length h.name.0 ≡ NAME_LENGTH
  pub bytes : All (λ b. b < 256) h.name.0
  pub counter : h.counter < 2 ^ 64
  pub snapshot : h.snapshot_length < 2 ^ 64

-- by what the file of a log is known
abbrev pub magic : List ℕ
magic = codes "IOX2LOG"

-- the same with the version
abbrev pub front : List ℕ
front = magic ++ VERSION ∷ []

-- all that stands before the sum
abbrev pub summed : Header → List ℕ
summed h = front ++ h.name.0 ++ (number h.counter ++ number h.snapshot_length)

-- the first bytes of the SHA-1 of the bytes
abbrev pub sum_of : List ℕ → List ℕ
sum_of bytes = take SUM_LENGTH (sha1 bytes)

-- The bytes are the byte form of the header, and nothing else.
pub record IsForm (h : Header) (bytes : List ℕ) : Type 0 where
  pub limits : IsHeader h
  pub is : bytes ≡ summed h ++ sum_of (summed h)

-- The bytes begin as the file of a log of this version does.
abbrev pub HasVersion : ℕ → List ℕ → Type 0
HasVersion version bytes = (rest : List ℕ) × (bytes ≡ magic ++ version ∷ rest)

-- A header has one form.
abbrev pub OneFormEach : Type 0
OneFormEach = (h : Header) (bytes other : List ℕ) → IsForm h bytes → IsForm h other → bytes ≡ other

-- Two headers with one form are equal.
abbrev pub OneHeaderEach : Type 0
OneHeaderEach = (bytes : List ℕ) (g h : Header) → IsForm g bytes → IsForm h bytes → g ≡ h

-- All forms are of one length.
abbrev pub EachFormIsLong : Type 0
EachFormIsLong = (h : Header) (bytes : List ℕ) → IsForm h bytes → length bytes ≡ HEADER_LENGTH
