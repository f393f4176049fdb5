-- The texts of traced accesses.
use Rattle.std.specs.Prelude.{ℕ, Bool, true, false, List, ◌++◌, codes, Result, Ok, Err}
use Rattle.std.specs.Fmt.{decimal}
use Rattle.iceoryx2_access.specs.declared.storage.Existence.{Existence}
use Rattle.iceoryx2_access.specs.declared.storage.Existence.TheVariants as existence
use Rattle.iceoryx2_access.specs.declared.storage.FetchError.{FetchError}
use Rattle.iceoryx2_access.specs.declared.storage.FetchError.TheVariants as fetching
use Rattle.iceoryx2_access.specs.declared.storage.Tag.{Tag}
use Rattle.iceoryx2_access.specs.declared.storage.Tag.TheVariants as tagged
use Rattle.iceoryx2_access.specs.declared.storage.TagError.{TagError}
use Rattle.iceoryx2_access.specs.declared.storage.TagError.TheVariants as tagging
use Rattle.iceoryx2_access.specs.declared.storage.RemoveError.{RemoveError}
use Rattle.iceoryx2_access.specs.declared.storage.RemoveError.TheVariants as removing
use Rattle.iceoryx2_access.specs.declared.storage.LockError.{LockError}
use Rattle.iceoryx2_access.specs.declared.storage.LockError.TheVariants as locking
use Rattle.iceoryx2_access.specs.declared.storage.MakeSegmentError.{MakeSegmentError}
use Rattle.iceoryx2_access.specs.declared.storage.MakeSegmentError.TheVariants as making
use Rattle.iceoryx2_access.specs.declared.storage.PublishError.{PublishError}
use Rattle.iceoryx2_access.specs.declared.storage.PublishError.TheVariants as publishing
use Rattle.iceoryx2_access.specs.declared.storage.OpenSegmentError.{OpenSegmentError}
use Rattle.iceoryx2_access.specs.declared.storage.OpenSegmentError.TheVariants as opening
use Rattle.iceoryx2_access.specs.declared.storage.Release.{Release as Released}
use Rattle.iceoryx2_access.specs.declared.storage.Release.TheVariants as releasing
use Rattle.iceoryx2_access.specs.declared.storage.ReleaseError.{ReleaseError}
use Rattle.iceoryx2_access.specs.declared.storage.ReleaseError.TheVariants as missing
use Rattle.iceoryx2_testing.specs.declared.traced.entry.Fetched.{Fetched}
use Rattle.iceoryx2_testing.specs.declared.traced.entry.TracedAccess.{TracedAccess}
use Rattle.iceoryx2_testing.specs.declared.traced.entry.TracedAccess.TheVariants as entry
use Rattle.iceoryx2_testing.specs.declared.traced.shown.ShownAnswer.{ShownAnswer}
use Rattle.iceoryx2_testing.specs.declared.traced.shown.ShownAnswer.TheVariants as shown

-- a number of a service stands alone, and a ticket in `Ok(..)`
abbrev pub ticket_text : ℕ → List ℕ
ticket_text t = codes "Ok(" ++ decimal t ++ codes ")"

abbrev pub fetched_text : Fetched → List ℕ
fetched_text f = decimal f.number ++ codes " (" ++ decimal f.length ++ codes " bytes)"

abbrev pub shown_text : ShownAnswer → List ℕ
shown_text (shown.Name name) = name.now
shown_text (shown.Number n) = decimal n
shown_text (shown.Ticket t) = ticket_text t
shown_text (shown.Bytes f) = fetched_text f

abbrev pub truth_text : Bool → List ℕ
truth_text true = codes "true"
truth_text false = codes "false"

abbrev pub existence_text : Existence → List ℕ
existence_text existence.No = codes "No"
existence_text existence.Yes = codes "Yes"
existence_text existence.BeingSetUp = codes "BeingSetUp"
existence_text existence.Fault = codes "Fault"

abbrev pub fetch_text : Result Fetched FetchError → List ℕ
fetch_text (Ok f) = fetched_text f
fetch_text (Err fetching.DoesNotExist) = codes "DoesNotExist"
fetch_text (Err fetching.NotFinalized) = codes "NotFinalized"
fetch_text (Err fetching.OpenFault) = codes "OpenFault"
fetch_text (Err fetching.ReadFault) = codes "ReadFault"
fetch_text (Err fetching.OutOfMemory) = codes "OutOfMemory"

abbrev pub tag_text : Result Tag TagError → List ℕ
tag_text (Ok tagged.Made) = codes "Made"
tag_text (Ok tagged.Found) = codes "Found"
tag_text (Err tagging.Fault) = codes "Fault"
tag_text (Err tagging.OutOfMemory) = codes "OutOfMemory"

abbrev pub removal_text : Result (Unit {0}) RemoveError → List ℕ
removal_text (Ok x) = codes "Ok"
removal_text (Err removing.InsufficientPermissions) = codes "InsufficientPermissions"
removal_text (Err removing.Other) = codes "Other"

abbrev pub lock_text : Result ℕ LockError → List ℕ
lock_text (Ok n) = decimal n
lock_text (Err locking.AlreadyExists) = codes "AlreadyExists"
lock_text (Err locking.Creation) = codes "Creation"
lock_text (Err locking.InsufficientPermissions) = codes "InsufficientPermissions"
lock_text (Err locking.Other) = codes "Other"
lock_text (Err locking.OutOfMemory) = codes "OutOfMemory"

abbrev pub segment_text : Result (Unit {0}) MakeSegmentError → List ℕ
segment_text (Ok x) = codes "Ok"
segment_text (Err making.AlreadyExists) = codes "AlreadyExists"
segment_text (Err making.InsufficientPermissions) = codes "InsufficientPermissions"
segment_text (Err making.Other) = codes "Other"
segment_text (Err making.OutOfMemory) = codes "OutOfMemory"

abbrev pub publishing_text : Result ℕ PublishError → List ℕ
publishing_text (Ok t) = ticket_text t
publishing_text (Err publishing.Other) = codes "Other"
publishing_text (Err publishing.OutOfMemory) = codes "OutOfMemory"

abbrev pub opening_text : Result ℕ OpenSegmentError → List ℕ
opening_text (Ok t) = ticket_text t
opening_text (Err opening.DoesNotExist) = codes "DoesNotExist"
opening_text (Err opening.Marked) = codes "Marked"
opening_text (Err opening.Full) = codes "Full"
opening_text (Err opening.Failed) = codes "Failed"
opening_text (Err opening.OutOfNumbers) = codes "OutOfNumbers"
opening_text (Err opening.OutOfMemory) = codes "OutOfMemory"

abbrev pub release_text : Result Released ReleaseError → List ℕ
release_text (Ok releasing.StillCounted) = codes "StillCounted"
release_text (Ok releasing.Left) = codes "Left"
release_text (Ok releasing.Last) = codes "Last"
release_text (Err missing.NoSuchTicket) = codes "NoSuchTicket"

-- the name of the access
abbrev pub access_name : TracedAccess → List ℕ
access_name (entry.Exists h a) = codes "exists"
access_name (entry.Fetch i h a) = codes "fetch"
access_name (entry.Counts i h a) = codes "counts"
access_name (entry.MakeTag i h a) = codes "make_tag"
access_name (entry.RemoveTag i h a) = codes "remove_tag"
access_name (entry.Lock i h a) = codes "lock"
access_name (entry.MakeSegment i h n m a) = codes "make_segment"
access_name (entry.RemoveSegment i h a) = codes "remove_segment"
access_name (entry.RemoveDescription i h a) = codes "remove_description"
access_name (entry.Publish i h n a) = codes "publish"
access_name (entry.OpenSegment i h n a) = codes "open_segment"
access_name (entry.Release t i h n a) = codes "release"

-- what it answered
abbrev pub answer_text : TracedAccess → List ℕ
answer_text (entry.Exists h a) = existence_text a
answer_text (entry.Fetch i h a) = fetch_text a
answer_text (entry.Counts i h a) = truth_text a
answer_text (entry.MakeTag i h a) = tag_text a
answer_text (entry.RemoveTag i h a) = removal_text a
answer_text (entry.Lock i h a) = lock_text a
answer_text (entry.MakeSegment i h n m a) = segment_text a
answer_text (entry.RemoveSegment i h a) = removal_text a
answer_text (entry.RemoveDescription i h a) = removal_text a
answer_text (entry.Publish i h n a) = publishing_text a
answer_text (entry.OpenSegment i h n a) = opening_text a
answer_text (entry.Release t i h n a) = release_text a

abbrev pub entry_text : TracedAccess → List ℕ
entry_text e = access_name e ++ codes " " ++ answer_text e
