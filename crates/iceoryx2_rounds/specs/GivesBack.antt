-- What a refused call gives back.
use Rattle.std.specs.Prelude.{ℕ, List, [], ◌∷◌, Result}
use Rattle.iceoryx2_description.specs.declared.description.ServiceHash.{ServiceHash}
use Rattle.iceoryx2_access.specs.declared.storage.RemoveError.{RemoveError}
use Rattle.iceoryx2_access.specs.declared.storage.Tag.{Tag}
use Rattle.iceoryx2_access.specs.declared.storage.Tag.TheVariants.{Made, Found}
use Rattle.iceoryx2_access.specs.Letter.{Letter, RemoveTag, RemoveSegment, RemoveDescription}

-- What a call makes on its way.
pub data Owned : Type 0 where
  OwnTag : Owned
  OwnLock : Owned
  OwnSegment : Owned

-- A tag that was there isn't the call's own.
abbrev pub own_tag : Tag → List Owned
own_tag Made = OwnTag ∷ []
own_tag Found = []

-- One removal for each thing, in order, with any answers.
module _ (node : ℕ) (hash : ServiceHash) where
  pub data GivesBack : List Owned → List Letter → Type 0 where
    nothing_left : GivesBack [] []
    segment_back : {owned : List Owned} {w : List Letter} (answer : Result (Unit {0}) RemoveError)
        → GivesBack owned w → GivesBack (OwnSegment ∷ owned) (RemoveSegment node hash answer ∷ w)
    lock_back : {owned : List Owned} {w : List Letter} (answer : Result (Unit {0}) RemoveError)
        → GivesBack owned w → GivesBack (OwnLock ∷ owned) (RemoveDescription node hash answer ∷ w)
    tag_back : {owned : List Owned} {w : List Letter} (answer : Result (Unit {0}) RemoveError)
        → GivesBack owned w → GivesBack (OwnTag ∷ owned) (RemoveTag node hash answer ∷ w)
