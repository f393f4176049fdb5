-- Steps and accesses that are written down before they change anything.
use Rattle.std.specs.Prelude.{◌≡◌, ◌⊎◌, ℕ, Bool, true, false, not, ◌&&◌, is_ok, Option, Some, None, Result, Ok, Err}
use Rattle.std.specs.declared.alloc.AllocError.{AllocError}
use Rattle.iceoryx2_description.specs.declared.description.ServiceHash.{ServiceHash}
use Rattle.iceoryx2_access.specs.declared.storage.Release.{Release as Released}
use Rattle.iceoryx2_access.specs.Letter.{Letter}
use Rattle.iceoryx2_access.specs.Letter as letter
use Rattle.iceoryx2_access.specs.MayRefuse.{IsFault}
use Rattle.iceoryx2_world.specs.declared.world.Participant.{Participant}
use Rattle.iceoryx2_world.specs.Access.{IsOwnPart}
use Rattle.iceoryx2_world.specs.Acts.{Act}
use Rattle.iceoryx2_world.specs.World.{World, Segment, tag_of}
use Rattle.iceoryx2_table.specs.ServicesState.{ServicesState, StepsTo, StepsOrStays, Starves, TakesLeave, Admits}

-- It is written down: it is granted, and is no tag that is found and no removal of a tag that isn't there.
abbrev pub is_written : World → Letter → Bool
is_written w (letter.MakeTag i h a) = is_ok a && not (tag_of w i h)
is_written w (letter.RemoveTag i h a) = is_ok a && tag_of w i h
is_written w (letter.Lock i h a) = is_ok a
is_written w (letter.MakeSegment i h n m a) = is_ok a
is_written w (letter.RemoveSegment i h a) = is_ok a
is_written w (letter.RemoveDescription i h a) = is_ok a
is_written w (letter.Publish i h n d a) = is_ok a
is_written w (letter.OpenSegment i h n a) = is_ok a
is_written w (letter.Release t i h n a) = is_ok a
is_written w _ = false

-- What writes down is this before, and that after; written and refused tell what it makes of an entry.
module _ {R : Type 0} (written refused : R → R → Type 0) where
  -- An access with its answer. It is written down before it changes anything.
  pub data IsRecordedPart (old : World) (l : Letter) (new : World) (before after : R) : Type 0 where
    -- nobody has to know of it: it changes nothing, and isn't written
    untouched : is_written old l ≡ false → IsOwnPart old l new → new ≡ old → after ≡ before
        → IsRecordedPart old l new before after
    -- it is written, once, and has its effect
    recorded : is_written old l ≡ true → IsOwnPart old l new → written before after
        → IsRecordedPart old l new before after
    -- it is refused an entry: the general fault, and nothing changes
    declined : IsFault l → new ≡ old → refused before after → IsRecordedPart old l new before after

  -- a step without memory: it is written and has its effect, or it is forbidden or refused an entry and nothing changes
  abbrev pub RecordsStep : ServicesState → Participant → ServiceHash → Act → Bool → ServicesState → R → R → Type 0
  RecordsStep b p h a true c before after = StepsTo b p h a c × written before after
  RecordsStep b p h a false c before after =
      (StepsOrStays b p h a false c × (after ≡ before)) ⊎ ((c ≡ b) × refused before after)

  -- a step that may run out of memory, and isn't written then
  abbrev pub MayRecordStep : ServicesState → Participant → ServiceHash → Act → Result Bool AllocError → ServicesState
      → R → R → Type 0
  MayRecordStep b p h a (Ok done) c before after = RecordsStep b p h a done c before after
  MayRecordStep b p h a (Err e) c before after = Starves b p h a c × (after ≡ before)

  -- a leave, with what it leaves
  abbrev pub RecordsLeave : ServicesState → Participant → ServiceHash → Option Released → ServicesState → R → R → Type 0
  RecordsLeave b p h (Some r) c before after = TakesLeave b p h (Some r) c × written before after
  RecordsLeave b p h None c before after =
      (TakesLeave b p h None c × (after ≡ before)) ⊎ ((c ≡ b) × refused before after)

  -- the segment takes one more, and that is written
  abbrev pub RecordsAdmission : ℕ → Participant → Segment → Result Bool AllocError → Segment → R → R → Type 0
  RecordsAdmission n p s (Ok true) t before after = Admits n p s (Ok true) t × written before after
  RecordsAdmission n p s (Ok false) t before after =
      (Admits n p s (Ok false) t × (after ≡ before)) ⊎ ((t ≡ s) × refused before after)
  RecordsAdmission n p s (Err e) t before after = Admits n p s (Err e) t × (after ≡ before)
