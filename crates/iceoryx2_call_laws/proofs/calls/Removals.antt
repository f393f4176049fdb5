-- Where nothing is refused by a fault, each removal of what is there is granted.
use Rattle.std.proofs.Common.{◌≡◌, ℕ, Bool, true, Result, Ok, Err, refl}
use Rattle.iceoryx2_description.specs.declared.description.ServiceHash.{ServiceHash}
use Rattle.iceoryx2_access.specs.declared.storage.RemoveError.{RemoveError}
use Rattle.iceoryx2_access.specs.Letter as letter
use Rattle.iceoryx2_world.specs.declared.world.Participant.TheVariants.{Node}
use Rattle.iceoryx2_world.specs.World.{World, phase_of}
use Rattle.iceoryx2_world.specs.Agreement.{Agrees}
use Rattle.iceoryx2_world.specs.Interference.{IsAccessUnder}
use Rattle.iceoryx2_world.proofs.agreement.Granted.{tag_granted, segment_granted, description_granted, MayClear, MayEnd}

module _ {own : ℕ → Bool} (w v : World) (i : ℕ) (h : ServiceHash) where
  pub tag_ok : (a : Result (Unit {0}) RemoveError) → IsAccessUnder own w (letter.RemoveTag i h a) v → a ≡ Ok tt
  tag_ok (Ok x) s = refl
  tag_ok (Err e) s = absurd (tag_granted w v i h e s)

  pub segment_ok : (a : Result (Unit {0}) RemoveError) → own i ≡ true → Agrees w → MayClear (phase_of w (Node i) h) → IsAccessUnder own w (letter.RemoveSegment i h a) v → a ≡ Ok tt
  segment_ok (Ok x) mine old may s = refl
  segment_ok (Err e) mine old may s = absurd (segment_granted w v i h e mine old may s)

  pub description_ok : (a : Result (Unit {0}) RemoveError) → own i ≡ true → Agrees w → MayEnd (phase_of w (Node i) h) → IsAccessUnder own w (letter.RemoveDescription i h a) v → a ≡ Ok tt
  description_ok (Ok x) mine old may s = refl
  description_ok (Err e) mine old may s = absurd (description_granted w v i h e mine old may s)
