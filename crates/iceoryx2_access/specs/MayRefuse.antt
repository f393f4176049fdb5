-- Accesses of any storage of which any may be refused.
use Rattle.std.specs.Prelude.{◌≡◌, ◌⊎◌, false, Err}
use Rattle.iceoryx2_access.specs.declared.storage.Existence.TheVariants.{Fault}
use Rattle.iceoryx2_access.specs.declared.storage.FetchError.TheVariants as Fetching
use Rattle.iceoryx2_access.specs.declared.storage.TagError.TheVariants as Tagging
use Rattle.iceoryx2_access.specs.declared.storage.RemoveError.TheVariants as Removing
use Rattle.iceoryx2_access.specs.declared.storage.LockError.TheVariants as Locking
use Rattle.iceoryx2_access.specs.declared.storage.MakeSegmentError.TheVariants as Making
use Rattle.iceoryx2_access.specs.declared.storage.PublishError.TheVariants as Publishing
use Rattle.iceoryx2_access.specs.declared.storage.OpenSegmentError.TheVariants as Opening
use Rattle.iceoryx2_access.specs.declared.storage.ReleaseError.TheVariants.{NoSuchTicket}
use Rattle.iceoryx2_access.specs.Letter.{Letter}
use Rattle.iceoryx2_access.specs.Letter as letter

-- The answer is the general fault of its access.
abbrev pub IsFault : Letter → Type 0
IsFault (letter.Exists h a) = a ≡ Fault
IsFault (letter.Fetch i h a) = a ≡ Err Fetching.OpenFault
IsFault (letter.Counts i h a) = a ≡ false
IsFault (letter.MakeTag i h a) = a ≡ Err Tagging.Fault
IsFault (letter.RemoveTag i h a) = a ≡ Err Removing.Other
IsFault (letter.Lock i h a) = a ≡ Err Locking.Other
IsFault (letter.MakeSegment i h n m a) = a ≡ Err Making.Other
IsFault (letter.RemoveSegment i h a) = a ≡ Err Removing.Other
IsFault (letter.RemoveDescription i h a) = a ≡ Err Removing.Other
IsFault (letter.Publish i h n d a) = a ≡ Err Publishing.Other
IsFault (letter.OpenSegment i h n a) = a ≡ Err Opening.Failed
IsFault (letter.Release t i h n a) = a ≡ Err NoSuchTicket

-- A step of the storage with its answer, or a refusal: the general fault, and nothing changes.
abbrev pub MayRefuse : {S : Type 0} → (S → Letter → S → Type 0) → S → Letter → S → Type 0
MayRefuse step old l new = step old l new ⊎ (IsFault l × (new ≡ old))
