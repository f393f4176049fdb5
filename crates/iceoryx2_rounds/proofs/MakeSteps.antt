-- What a refused making of a segment means.
use Rattle.std.proofs.Common.{◌≡◌, Option, Some, None, refl, sym, ap, ◌∙◌}
use Rattle.iceoryx2_access.specs.declared.storage.MakeSegmentError.{MakeSegmentError}
use Rattle.iceoryx2_access.specs.declared.storage.MakeSegmentError.TheVariants as make
use Rattle.iceoryx2_rounds.specs.declared.pattern.CreateRefusal.{CreateRefusal}
use Rattle.iceoryx2_rounds.specs.declared.pattern.CreateRefusal.TheVariants as refusal
use Rattle.iceoryx2_rounds.specs.Refusals.{of_make}

-- only a segment that is there is no refusal
pub only_there : (e : MakeSegmentError) → of_make e ≡ None → e ≡ make.AlreadyExists
only_there make.AlreadyExists h = refl
only_there make.InsufficientPermissions h = cc
only_there make.Other h = cc
only_there make.OutOfMemory h = cc

pub not_there : {e : MakeSegmentError} {why : CreateRefusal} → of_make e ≡ Some why → e ≡ make.AlreadyExists → ⊥
not_there {why} h is = let none : ◌≡◌ {A = Option CreateRefusal} None (Some why) = sym (ap of_make is) ∙ h in cc

pub without_memory : {e : MakeSegmentError} {why : CreateRefusal} → of_make e ≡ Some why → e ≡ make.OutOfMemory → why ≡ refusal.OutOfMemory
without_memory {why} h is = let some : ◌≡◌ {A = Option CreateRefusal} (Some why) (Some refusal.OutOfMemory) = sym h ∙ ap of_make is in cc
