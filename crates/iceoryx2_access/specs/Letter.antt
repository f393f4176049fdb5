-- A letter is one access of a storage with its arguments and its answer.
use Rattle.std.specs.Prelude.{ℕ, Bool, List, Result, Ok, Err}
use Rattle.std.specs.declared.vec.Vec.{Vec}
use Rattle.iceoryx2_description.specs.declared.description.ServiceHash.{ServiceHash}
use Rattle.iceoryx2_description.specs.Description.{Description}
use Rattle.iceoryx2_access.specs.declared.storage.Existence.{Existence}
use Rattle.iceoryx2_access.specs.declared.storage.FetchError.{FetchError}
use Rattle.iceoryx2_access.specs.declared.storage.Tag.{Tag}
use Rattle.iceoryx2_access.specs.declared.storage.TagError.{TagError}
use Rattle.iceoryx2_access.specs.declared.storage.RemoveError.{RemoveError}
use Rattle.iceoryx2_access.specs.declared.storage.LockError.{LockError}
use Rattle.iceoryx2_access.specs.declared.storage.MakeSegmentError.{MakeSegmentError}
use Rattle.iceoryx2_access.specs.declared.storage.PublishError.{PublishError}
use Rattle.iceoryx2_access.specs.declared.storage.OpenSegmentError.{OpenSegmentError}
use Rattle.iceoryx2_access.specs.declared.storage.Release.{Release as Released}
use Rattle.iceoryx2_access.specs.declared.storage.ReleaseError.{ReleaseError}

pub data Letter : Type 0 where
  Exists : ServiceHash → Existence → Letter
  Fetch : (node : ℕ) → ServiceHash → Result (ℕ × List ℕ) FetchError → Letter
  Counts : (node : ℕ) → ServiceHash → Bool → Letter
  MakeTag : (node : ℕ) → ServiceHash → Result Tag TagError → Letter
  RemoveTag : (node : ℕ) → ServiceHash → Result (Unit {0}) RemoveError → Letter
  Lock : (node : ℕ) → ServiceHash → Result ℕ LockError → Letter
  MakeSegment : (node : ℕ) → ServiceHash → (number max_nodes : ℕ) → Result (Unit {0}) MakeSegmentError
      → Letter
  RemoveSegment : (node : ℕ) → ServiceHash → Result (Unit {0}) RemoveError → Letter
  RemoveDescription : (node : ℕ) → ServiceHash → Result (Unit {0}) RemoveError → Letter
  Publish : (node : ℕ) → ServiceHash → (number : ℕ) → Description → Result ℕ PublishError → Letter
  OpenSegment : (node : ℕ) → ServiceHash → (number : ℕ) → Result ℕ OpenSegmentError → Letter
  Release : (ticket node : ℕ) → ServiceHash → (number : ℕ) → Result Released ReleaseError → Letter

-- who calls, and for which service; `exists` is nobody's
abbrev pub acting_node : Letter → ℕ
acting_node (Exists h a) = 0
acting_node (Fetch i h a) = i
acting_node (Counts i h a) = i
acting_node (MakeTag i h a) = i
acting_node (RemoveTag i h a) = i
acting_node (Lock i h a) = i
acting_node (MakeSegment i h n m a) = i
acting_node (RemoveSegment i h a) = i
acting_node (RemoveDescription i h a) = i
acting_node (Publish i h n d a) = i
acting_node (OpenSegment i h n a) = i
acting_node (Release t i h n a) = i

abbrev pub service_of : Letter → ServiceHash
service_of (Exists h a) = h
service_of (Fetch i h a) = h
service_of (Counts i h a) = h
service_of (MakeTag i h a) = h
service_of (RemoveTag i h a) = h
service_of (Lock i h a) = h
service_of (MakeSegment i h n m a) = h
service_of (RemoveSegment i h a) = h
service_of (RemoveDescription i h a) = h
service_of (Publish i h n d a) = h
service_of (OpenSegment i h n a) = h
service_of (Release t i h n a) = h

-- a fetch's answer, with its bytes as a list
abbrev pub fetch_answer : {A : Type 0} → Result (ℕ × Vec ℕ A) FetchError → Result (ℕ × List ℕ) FetchError
fetch_answer (Ok p) = Ok (p.0, p.1.items)
fetch_answer (Err e) = Err e
