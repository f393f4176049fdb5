-- What an access's refusal, and what a look finds wrong, make of a call.
use Rattle.std.specs.Prelude.{Option, Some, None}
use Rattle.iceoryx2_access.specs.declared.storage.TagError.{TagError}
use Rattle.iceoryx2_access.specs.declared.storage.TagError.TheVariants as tag
use Rattle.iceoryx2_access.specs.declared.storage.LockError.{LockError}
use Rattle.iceoryx2_access.specs.declared.storage.LockError.TheVariants as lock
use Rattle.iceoryx2_access.specs.declared.storage.MakeSegmentError.{MakeSegmentError}
use Rattle.iceoryx2_access.specs.declared.storage.MakeSegmentError.TheVariants as make
use Rattle.iceoryx2_access.specs.declared.storage.RemoveError.{RemoveError}
use Rattle.iceoryx2_access.specs.declared.storage.RemoveError.TheVariants as remove
use Rattle.iceoryx2_access.specs.declared.storage.PublishError.{PublishError}
use Rattle.iceoryx2_access.specs.declared.storage.PublishError.TheVariants as publish
use Rattle.iceoryx2_access.specs.declared.storage.OpenSegmentError.{OpenSegmentError}
use Rattle.iceoryx2_access.specs.declared.storage.OpenSegmentError.TheVariants as segment
use Rattle.iceoryx2_rounds.specs.declared.look.Fault.{Fault}
use Rattle.iceoryx2_rounds.specs.declared.look.Fault.TheVariants as fault
use Rattle.iceoryx2_rounds.specs.PatternRules.{PatternRules}
use Rattle.iceoryx2_rounds.specs.declared.pattern.OpenRefusal.{OpenRefusal}
use Rattle.iceoryx2_rounds.specs.declared.pattern.OpenRefusal.TheVariants as open_refusal
use Rattle.iceoryx2_rounds.specs.declared.pattern.CreateRefusal.{CreateRefusal}
use Rattle.iceoryx2_rounds.specs.declared.pattern.CreateRefusal.TheVariants as create_refusal

-- of a create

abbrev pub of_tag : TagError → CreateRefusal
of_tag tag.Fault = create_refusal.InternalFailure
of_tag tag.OutOfMemory = create_refusal.OutOfMemory

abbrev pub of_lock : LockError → CreateRefusal
of_lock lock.AlreadyExists = create_refusal.AlreadyExists
of_lock lock.Creation = create_refusal.IsBeingCreatedByAnotherInstance
of_lock lock.InsufficientPermissions = create_refusal.InsufficientPermissions
of_lock lock.Other = create_refusal.InternalFailure
of_lock lock.OutOfMemory = create_refusal.OutOfMemory

-- A segment that is there is removed, and it is tried again.
abbrev pub of_make : MakeSegmentError → Option CreateRefusal
of_make make.AlreadyExists = None
of_make make.InsufficientPermissions = Some create_refusal.InsufficientPermissions
of_make make.Other = Some create_refusal.InternalFailure
of_make make.OutOfMemory = Some create_refusal.OutOfMemory

abbrev pub of_remove : RemoveError → CreateRefusal
of_remove remove.InsufficientPermissions = create_refusal.InsufficientPermissions
of_remove remove.Other = create_refusal.InternalFailure

abbrev pub of_publish : PublishError → CreateRefusal
of_publish publish.Other = create_refusal.ServiceInCorruptedState
of_publish publish.OutOfMemory = create_refusal.OutOfMemory

-- of an open

abbrev pub of_tag_opening : TagError → OpenRefusal
of_tag_opening tag.Fault = open_refusal.InternalFailure
of_tag_opening tag.OutOfMemory = open_refusal.OutOfMemory

-- After `Failed` it looks again.
abbrev pub of_opening : OpenSegmentError → Option OpenRefusal
of_opening segment.DoesNotExist = Some open_refusal.ServiceInCorruptedState
of_opening segment.Marked = Some open_refusal.IsMarkedForDestruction
of_opening segment.Full = Some open_refusal.ExceedsMaxNumberOfNodes
of_opening segment.Failed = None
of_opening segment.OutOfNumbers = Some open_refusal.InternalFailure
of_opening segment.OutOfMemory = Some open_refusal.OutOfMemory

-- of a look, by what it finds wrong

-- A service that doesn't fit is there, so a create says that it exists.
abbrev pub create_error_of : {E C : Type 0} → PatternRules E C → Fault E → C
create_error_of m fault.InsufficientPermissions = m.create_refusal create_refusal.InsufficientPermissions
create_error_of m fault.HangsInCreation = m.create_refusal create_refusal.HangsInCreation
create_error_of m fault.Corrupted = m.create_refusal create_refusal.ServiceInCorruptedState
create_error_of m fault.OutOfMemory = m.create_refusal create_refusal.OutOfMemory
create_error_of m (fault.Misfit error) = m.create_refusal create_refusal.AlreadyExists

abbrev pub open_error_of : {E C : Type 0} → PatternRules E C → Fault E → E
open_error_of m fault.InsufficientPermissions = m.open_refusal open_refusal.InsufficientPermissions
open_error_of m fault.HangsInCreation = m.open_refusal open_refusal.HangsInCreation
open_error_of m fault.Corrupted = m.open_refusal open_refusal.ServiceInCorruptedState
open_error_of m fault.OutOfMemory = m.open_refusal open_refusal.OutOfMemory
open_error_of m (fault.Misfit error) = error
