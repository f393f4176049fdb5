-- What is kept of an access.
use Rattle.std.specs.Prelude.{ℕ, List, length, Result, Ok, Err}
use Rattle.iceoryx2_access.specs.declared.storage.FetchError.{FetchError}
use Rattle.iceoryx2_access.specs.Letter.{Letter}
use Rattle.iceoryx2_access.specs.Letter as letter
use Rattle.iceoryx2_testing.specs.declared.traced.entry.Fetched.{Fetched}
use Rattle.iceoryx2_testing.specs.declared.traced.entry.TracedAccess.{TracedAccess}
use Rattle.iceoryx2_testing.specs.declared.traced.entry.TracedAccess.TheVariants as entry

-- of a description that was fetched, its service's number and its length
abbrev pub fetched_of : Result (ℕ × List ℕ) FetchError → Result Fetched FetchError
fetched_of (Ok p) = Ok (record { number = p.0; length = length p.1 })
fetched_of (Err e) = Err e

-- all of an access but the bytes of a description
abbrev pub entry_of : Letter → TracedAccess
entry_of (letter.Exists h a) = entry.Exists h a
entry_of (letter.Fetch i h a) = entry.Fetch i h (fetched_of a)
entry_of (letter.Counts i h a) = entry.Counts i h a
entry_of (letter.MakeTag i h a) = entry.MakeTag i h a
entry_of (letter.RemoveTag i h a) = entry.RemoveTag i h a
entry_of (letter.Lock i h a) = entry.Lock i h a
entry_of (letter.MakeSegment i h n m a) = entry.MakeSegment i h n m a
entry_of (letter.RemoveSegment i h a) = entry.RemoveSegment i h a
entry_of (letter.RemoveDescription i h a) = entry.RemoveDescription i h a
entry_of (letter.Publish i h n d a) = entry.Publish i h n a
entry_of (letter.OpenSegment i h n a) = entry.OpenSegment i h n a
entry_of (letter.Release t i h n a) = entry.Release t i h n a
