use Rattle.std.proofs.Common.{◌≡◌, refl}
use Rattle.iceoryx2_access.proofs.Run.{joins, one}
use Rattle.iceoryx2_access.specs.Run.{next}
use Rattle.iceoryx2_access.specs.declared.storage.ReleaseError.{ReleaseError}
use Rattle.iceoryx2_access.specs.declared.storage.ReleaseError.TheVariants.{NoSuchTicket}
use Rattle.iceoryx2_rounds.specs.Closes.{not_here, still_counted, left, last}
use Rattle.iceoryx2_rounds.proofs.port_factory.Registration.close.Goals as goal

-- a release is refused for one reason
only_reason : (e : ReleaseError) → e ≡ NoSuchTicket
only_reason NoSuchTicket = refl

pub returns-in-Err-NoSuchTicket : goal.returns-in-Err-NoSuchTicket
returns-in-Err-NoSuchTicket g c = rw (← c.self.view_is) (joins not_here (one (rw (only_reason c.in-Err-NoSuchTicket.field-0, c.service_hash.ensures.value) at c.in-Err-NoSuchTicket.ensures)))

pub returns-in-StillCounted : goal.returns-in-StillCounted
returns-in-StillCounted g c = rw (← c.self.view_is) (joins still_counted (one (rw (c.in-StillCounted.is, c.service_hash.ensures.value) at c.in-Ok.ensures)))

pub returns-in-Left : goal.returns-in-Left
returns-in-Left g c = rw (← c.self.view_is, c.answer.ensures) (joins (left _) (next (rw (c.in-Left.is, c.service_hash.ensures.value) at c.in-Ok.ensures) (one (rw c.service_hash.ensures.value at c.remove_tag-tag.ensures))))

pub returns-in-Last : goal.returns-in-Last
returns-in-Last g c = rw (← c.self.view_is, c.answer-in-Last.ensures) (joins (last _ _ _) (next (rw (c.in-Last.is, c.service_hash.ensures.value) at c.in-Ok.ensures) (next (rw c.service_hash.ensures.value at c.remove_tag-tag-in-Last.ensures) (next (rw c.service_hash.ensures.value at c.remove_segment-segment.ensures) (one (rw c.service_hash.ensures.value at c.remove_description-description.ensures))))))
