-- Reading single parts of the byte form from left to right.
use Rattle.std.specs.Prelude.{◌≡◌, ℕ, zero, suc, Bool, true, false, List, [], ◌∷◌}
use Rattle.std.specs.Prelude.{length, take, drop, bytes_eq}
use Rattle.std.specs.Prelude.{Option, Some, None, Result, Ok, Err, nat_lt, if◌then◌else◌}
use Rattle.std.specs.Int.{Width, w16, w32, w64, byte_len, from_be_bytes, is_power_of_two}
use Rattle.std.specs.Str.{is_utf8}
use Rattle.iceoryx2_types.specs.declared.types.TheConstants.{MIN_TYPE_NAME_LENGTH, MAX_TYPE_NAME_LENGTH}
use Rattle.iceoryx2_types.specs.declared.types.TypeVariant.{TypeVariant}
use Rattle.iceoryx2_types.specs.declared.types.TypeVariant.TheVariants.{FixedSize, Dynamic}
use Rattle.iceoryx2_types.specs.Types.{Detail, Message, detail_of, message_of}
use Rattle.iceoryx2_description.specs.declared.time.TheConstants.{NANOSECONDS_PER_SECOND}
use Rattle.iceoryx2_description.specs.declared.event.Deadline.{Deadline}
use Rattle.iceoryx2_description.specs.Span.{Span}
use Rattle.iceoryx2_data.specs.declared.parts.reading.DecodeError.{DecodeError}
use Rattle.iceoryx2_data.specs.declared.parts.reading.DecodeError.TheVariants.{Malformed, OutOfMemory}

infixl 10 ◌>>=◌
abbrev pub ◌>>=◌ : {A B : Type 0} → Option A → (A → Option B) → Option B
None >>= f = None
(Some x) >>= f = f x

-- A part is read from the front of the bytes: its value, and the bytes after it.
abbrev pub Part : Type 0 → Type 0
Part A = List ℕ → Option (A × List ℕ)

-- ---- parts made of parts

abbrev pub then_at : {A B : Type 0} → Part A → Part B → Part (A × B)
then_at first second bytes = first bytes >>= λ a. second a.1 >>= λ b. Some ((a.0, b.0), b.1)

abbrev pub as_at : {A B : Type 0} → (A → B) → Part A → Part B
as_at to part bytes = part bytes >>= λ a. Some (to a.0, a.1)

abbrev pub where_at : {A : Type 0} → (A → Bool) → Part A → Part A
where_at test part bytes = part bytes >>= λ a. if test a.0 then Some a else None

-- ---- numbers, bytes, texts, truth values, options and lists

abbrev pub number_at : Width → Part ℕ
number_at w bytes = if nat_lt (length bytes) (byte_len w) then None
    else Some (from_be_bytes w (take (byte_len w) bytes), drop (byte_len w) bytes)

-- n bytes
abbrev pub bytes_at : ℕ → Part (List ℕ)
bytes_at n bytes = if nat_lt (length bytes) n then None else Some (take n bytes, drop n bytes)

-- just these bytes
unfoldable pub literal_at : List ℕ → Part (Unit {0})
literal_at bytes input = bytes_at (length bytes) input >>= λ t. if bytes_eq t.0 bytes then Some (tt, t.1) else None

-- a text of lo to hi bytes
unfoldable pub text_at : ℕ → ℕ → Part (List ℕ)
text_at lo hi bytes = number_at w16 bytes >>= λ n. if nat_lt n.0 lo then None else if nat_lt hi n.0 then None
    else bytes_at n.0 n.1 >>= λ t. if is_utf8 t.0 then Some t else None

-- a byte that is 0 or 1
unfoldable pub truth_at : Part Bool
truth_at [] = None
truth_at (zero ∷ rest) = Some (false, rest)
truth_at (suc zero ∷ rest) = Some (true, rest)
truth_at (suc (suc b) ∷ rest) = None

unfoldable pub option_at : {A : Type 0} → Part A → Part (Option A)
option_at part [] = None
option_at part (zero ∷ rest) = Some (None, rest)
option_at part (suc zero ∷ rest) = part rest >>= λ x. Some (Some x.0, x.1)
option_at part (suc (suc b) ∷ rest) = None

-- n parts, one behind the other
unfoldable pub list_at : {A : Type 0} → Part A → ℕ → Part (List A)
list_at part zero bytes = Some ([], bytes)
list_at part (suc n) bytes = part bytes >>= λ x. list_at part n x.1 >>= λ xs. Some (x.0 ∷ xs.0, xs.1)

-- their number, hi at most, and so many parts
unfoldable pub counted_at : {A : Type 0} → ℕ → Part A → Part (List A)
counted_at hi part bytes = number_at w16 bytes >>= λ n. if nat_lt hi n.0 then None else list_at part n.0 n.1

-- ---- times

abbrev pub span_from : ℕ × ℕ → Span
span_from p = record { seconds = p.0; nanoseconds = p.1 }

unfoldable pub span_at : Part Span
span_at = as_at span_from (where_at (λ p. nat_lt p.1 NANOSECONDS_PER_SECOND) (then_at (number_at w64) (number_at w32)))

abbrev pub deadline_from : Span × Span → Deadline
deadline_from p = record { value = p.0; creation_time = p.1 }

unfoldable pub deadline_at : Part Deadline
deadline_at = as_at deadline_from (then_at span_at span_at)

-- ---- types of messages

unfoldable pub variant_at : Part TypeVariant
variant_at [] = None
variant_at (zero ∷ rest) = Some (FixedSize, rest)
variant_at (suc zero ∷ rest) = Some (Dynamic, rest)
variant_at (suc (suc b) ∷ rest) = None

abbrev pub detail_from : TypeVariant × (List ℕ × (ℕ × ℕ)) → Detail
detail_from p = detail_of p.0 p.1.0 p.1.1.0 p.1.1.1

unfoldable pub detail_at : Part Detail
detail_at = as_at detail_from (then_at variant_at (then_at (text_at MIN_TYPE_NAME_LENGTH MAX_TYPE_NAME_LENGTH)
    (then_at (number_at w64) (where_at is_power_of_two (number_at w64)))))

abbrev pub message_from : Detail × (Detail × Detail) → Message
message_from p = message_of p.0 p.1.0 p.1.1

unfoldable pub message_at : Part Message
message_at = as_at message_from (then_at detail_at (then_at detail_at detail_at))

-- ---- what the code returns

-- Nothing is read, or memory ran out.
abbrev pub Fails : {Y : Type 0} → DecodeError → Option Y → Type 0
Fails Malformed read = read ≡ None
Fails OutOfMemory read = Unit {0}

-- What a function returned, seen by view, is what is read, unless memory ran out.
abbrev pub IsReadBy : {X Y : Type 0} → (X → Y) → Result X DecodeError → Option Y → Type 0
IsReadBy view (Ok x) read = read ≡ Some (view x)
IsReadBy view (Err e) read = Fails e read
