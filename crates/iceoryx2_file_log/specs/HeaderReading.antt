-- Reading the byte form of a header from left to right.
use Rattle.std.specs.Prelude.{ℕ, List, Option, Some, None, bytes_eq, ◌==◌, if◌then◌else◌}
use Rattle.std.specs.Int.{w64}
use Rattle.iceoryx2_data.specs.PartReading.{◌>>=◌, number_at, bytes_at, literal_at}
use Rattle.iceoryx2_log.specs.Reading.{kind_at}
use Rattle.iceoryx2_file_log.specs.declared.header.TheConstants.{SUMMED_LENGTH, NAME_LENGTH, VERSION}
use Rattle.iceoryx2_file_log.specs.declared.header.Header.{Header}
use Rattle.iceoryx2_file_log.specs.declared.header.HeaderError.{HeaderError}
use Rattle.iceoryx2_file_log.specs.declared.header.HeaderError.TheVariants.{NotALog, AnotherVersion, Damaged}
use Rattle.iceoryx2_file_log.specs.Header.{magic, front, sum_of}

-- the byte after the magic
unfoldable pub version_at : List ℕ → Option ℕ
version_at bytes = literal_at magic bytes >>= λ m. kind_at m.1 >>= λ v. Some v.0

-- all but the sum, where the sum is right
unfoldable pub summed_in : List ℕ → Option (List ℕ)
summed_in bytes = bytes_at SUMMED_LENGTH bytes >>= λ x. if bytes_eq x.1 (sum_of x.0) then Some x.0 else None

abbrev pub header_from : List ℕ → ℕ → ℕ → Header
header_from name counter snapshot = record { name = record { 0 = name }; counter = counter; snapshot_length = snapshot }

unfoldable pub fields_in : List ℕ → Option Header
fields_in bytes = bytes_at NAME_LENGTH bytes >>= λ name. number_at w64 name.1 >>= λ counter.
    number_at w64 counter.1 >>= λ snapshot. Some (header_from name.0 counter.0 snapshot.0)

unfoldable pub header_in : List ℕ → Option Header
header_in bytes = summed_in bytes >>= λ summed. literal_at front summed >>= λ f. fields_in f.1

-- why there is none, by the version that was read
abbrev pub fault_of : Option ℕ → HeaderError
fault_of None = NotALog
fault_of (Some found) = if found == VERSION then Damaged else AnotherVersion found
