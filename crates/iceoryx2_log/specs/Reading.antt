-- Reading the byte form of an entry from left to right, part by part.
use Rattle.std.specs.Prelude.{◌≡◌, ℕ, ◌+◌, Bool, true, false, List, [], ◌∷◌, length, bytes_eq, nat_lt}
use Rattle.std.specs.Prelude.{Option, Some, None, Result, Ok, Err, IsSome, ◌==◌, if◌then◌else◌}
use Rattle.std.specs.Int.{w32, w64, bit_not}
use Rattle.iceoryx2_data.specs.PartReading.{◌>>=◌, Part, then_at, number_at, bytes_at}
use Rattle.iceoryx2_description.specs.declared.description.TheConstants.{HASH_LENGTH}
use Rattle.iceoryx2_log.specs.declared.entry.Operation.{Operation}
use Rattle.iceoryx2_log.specs.declared.entry.Operation.TheVariants.{MakeTag, RemoveTag, Lock, MakeSegment, RemoveSegment}
use Rattle.iceoryx2_log.specs.declared.entry.Operation.TheVariants.{RemoveDescription, Publish, OpenSegment, Release, Spend, Moved}
use Rattle.iceoryx2_log.specs.declared.entry.Entry.{Entry}
use Rattle.iceoryx2_log.specs.declared.form.TheConstants.{HEADER_LENGTH, SUM_LENGTH, MIN_BODY_LENGTH, MAX_BODY_LENGTH}
use Rattle.iceoryx2_log.specs.declared.form.reading.EntryError.{EntryError}
use Rattle.iceoryx2_log.specs.declared.form.reading.EntryError.TheVariants.{CutShort, Malformed, OutOfMemory}
use Rattle.iceoryx2_log.specs.Form.{sum_of}

-- ---- a operation's numbers and bytes, which are all of the bytes

unfoldable pub none_in : Operation → List ℕ → Option Operation
none_in d [] = Some d
none_in d (b ∷ bytes) = None

unfoldable pub number_in : (ℕ → Operation) → List ℕ → Option Operation
number_in to bytes = number_at w64 bytes >>= λ x. none_in (to x.0) x.1

unfoldable pub numbers_in : (ℕ → ℕ → Operation) → List ℕ → Option Operation
numbers_in to bytes = number_at w64 bytes >>= λ x. number_in (to x.0) x.1

unfoldable pub publish_in : List ℕ → Option Operation
publish_in bytes = number_at w64 bytes >>= λ x. Some (Publish x.0 x.1)

unfoldable pub plain_operation_in : ℕ → List ℕ → Option Operation
plain_operation_in kind bytes = if kind == 1 then none_in MakeTag bytes
    else if kind == 2 then none_in RemoveTag bytes
    else if kind == 3 then number_in Lock bytes
    else if kind == 4 then numbers_in MakeSegment bytes
    else if kind == 5 then none_in RemoveSegment bytes
    else if kind == 6 then none_in RemoveDescription bytes
    else if kind == 8 then numbers_in OpenSegment bytes
    else if kind == 9 then numbers_in Release bytes
    else if kind == 10 then number_in Spend bytes
    else if kind == 11 then none_in Moved bytes
    else None

unfoldable pub operation_in : ℕ → List ℕ → Option Operation
operation_in kind bytes = if kind == 7 then publish_in bytes else plain_operation_in kind bytes

-- ---- a body

unfoldable pub kind_at : Part ℕ
kind_at [] = None
kind_at (b ∷ rest) = Some (b, rest)

-- kind, node and hash
unfoldable pub front_at : Part (ℕ × (ℕ × List ℕ))
front_at = then_at kind_at (then_at (number_at w64) (bytes_at HASH_LENGTH))

abbrev pub entry_from : ℕ × (ℕ × List ℕ) → Operation → Entry
entry_from front d = record { node = front.1.0; hash = record { 0 = front.1.1 }; operation = d }

unfoldable pub body_in : List ℕ → Option Entry
body_in bytes = front_at bytes >>= λ front. operation_in front.0.0 front.1 >>= λ d. Some (entry_from front.0 d)

-- ---- an entry in front of the bytes

unfoldable pub header_at : Part ℕ
header_at bytes = number_at w32 bytes >>= λ n. number_at w32 n.1 >>= λ inverted.
    if inverted.0 == bit_not w32 n.0
    then if nat_lt n.0 MIN_BODY_LENGTH then None else if nat_lt MAX_BODY_LENGTH n.0 then None
    else Some (n.0, inverted.1) else None

-- so many bytes behind their sum
unfoldable pub summed_at : ℕ → Part (List ℕ)
summed_at n bytes = bytes_at SUM_LENGTH bytes >>= λ sum. bytes_at n sum.1 >>= λ body.
    if bytes_eq sum.0 (sum_of body.0) then Some body else None

unfoldable pub sealed_at : Part (List ℕ)
sealed_at bytes = header_at bytes >>= λ n. summed_at n.0 n.1

unfoldable pub entry_at : Part Entry
entry_at bytes = sealed_at bytes >>= λ bytes. body_in bytes.0 >>= λ entry. Some (entry, bytes.1)

-- ---- whether the bytes end too early

-- Fewer bytes stand behind a header than it says.
unfoldable pub lacks_body : Option (ℕ × List ℕ) → Bool
lacks_body None = false
lacks_body (Some x) = nat_lt (length x.1) (SUM_LENGTH + x.0)

unfoldable pub is_cut_short : List ℕ → Bool
is_cut_short bytes = if nat_lt (length bytes) HEADER_LENGTH then true else lacks_body (header_at bytes)

-- ---- what the code returns

-- What a function returned, seen by view, is what is read.
abbrev pub IsPart : {X Y : Type 0} → (X → Y) → Option X → Option Y → Type 0
IsPart view (Some x) read = read ≡ Some (view x)
IsPart view None read = read ≡ None

-- Which error it is, by whether the bytes end too early and by what is read.
abbrev pub Fails : {Y : Type 0} → Bool → EntryError → Option Y → Type 0
Fails is_short CutShort read = is_short ≡ true
Fails is_short Malformed read = (is_short ≡ false) × (read ≡ None)
Fails is_short OutOfMemory read = (is_short ≡ false) × IsSome read

-- What a function returned, seen by view, is what is read, or which error it is.
abbrev pub IsReadBy : {X Y : Type 0} → (X → Y) → Bool → Result X EntryError → Option Y → Type 0
IsReadBy view is_short (Ok x) read = (is_short ≡ false) × (read ≡ Some (view x))
IsReadBy view is_short (Err e) read = Fails is_short e read
