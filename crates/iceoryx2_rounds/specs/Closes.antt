-- The words of close, with their answers.
use Rattle.std.specs.Prelude.{List, [], ◌∷◌, Result, Ok, Err}
use Rattle.iceoryx2_access.specs.declared.storage.RemoveError.{RemoveError}
use Rattle.iceoryx2_access.specs.declared.storage.Release.{Release as Released}
use Rattle.iceoryx2_access.specs.declared.storage.Release.TheVariants as leave
use Rattle.iceoryx2_access.specs.declared.storage.ReleaseError.{ReleaseError}
use Rattle.iceoryx2_access.specs.declared.storage.ReleaseError.TheVariants as release
use Rattle.iceoryx2_access.specs.Letter.{Letter, Release, RemoveTag, RemoveSegment, RemoveDescription}
use Rattle.iceoryx2_errors.specs.declared.error.CloseError.{CloseError}
use Rattle.iceoryx2_errors.specs.declared.error.CloseError.TheVariants.{NotHere}
use Rattle.iceoryx2_errors.specs.declared.error.CloseError.TheVariants.{TagNotRemoved, SegmentNotRemoved}
use Rattle.iceoryx2_errors.specs.declared.error.CloseError.TheVariants.{DescriptionNotRemoved}
use Rattle.iceoryx2_access.specs.Registered.{Registered}

-- the first removal that is refused
abbrev pub first_refused : {F : Type 0} → (tag segment description : Result (Unit {0}) RemoveError)
    → Result (Unit {0}) (CloseError F)
first_refused (Err e) segment description = Err TagNotRemoved
first_refused (Ok _) (Err e) description = Err SegmentNotRemoved
first_refused (Ok _) (Ok _) (Err e) = Err DescriptionNotRemoved
first_refused (Ok _) (Ok _) (Ok _) = Ok tt

-- the release of the factory's ticket, with this answer
abbrev pub releases : Registered → Result Released ReleaseError → Letter
releases r answer = Release r.ticket r.node r.description.hash r.number answer

pub data IsCloseWord (r : Registered) : List Letter → Result (Unit {0}) (CloseError Registered) → Type 0 where
  not_here : IsCloseWord r (releases r (Err release.NoSuchTicket) ∷ []) (Err (NotHere r))
  still_counted : IsCloseWord r (releases r (Ok leave.StillCounted) ∷ []) (Ok tt)
  left : (tag : Result (Unit {0}) RemoveError)
      → IsCloseWord r (releases r (Ok leave.Left) ∷ RemoveTag r.node r.description.hash tag ∷ [])
      (first_refused tag (Ok tt) (Ok tt))
  last : (tag segment description : Result (Unit {0}) RemoveError)
      → IsCloseWord r (releases r (Ok leave.Last) ∷ RemoveTag r.node r.description.hash tag
      ∷ RemoveSegment r.node r.description.hash segment
      ∷ RemoveDescription r.node r.description.hash description ∷ [])
      (first_refused tag segment description)
