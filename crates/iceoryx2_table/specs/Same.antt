-- Worlds that differ at most in who has only read.
use Rattle.std.specs.Prelude.{◌≡◌}
use Rattle.iceoryx2_description.specs.declared.description.ServiceHash.{ServiceHash}
use Rattle.iceoryx2_world.specs.declared.world.Participant.{Participant}
use Rattle.iceoryx2_world.specs.declared.world.Phase.{Phase}
use Rattle.iceoryx2_world.specs.declared.world.Phase.TheVariants as at
use Rattle.iceoryx2_world.specs.World.{World, phase_of}

-- who has only read is as who has nothing
abbrev pub settled : Phase → Phase
settled (at.Read n) = at.Idle
settled x = x

-- The worlds are the same, but for the phases Idle and Read.
pub record IsSameButRead (w v : World) : Type 0 where
  pub rows : v.rows ≡ w.rows
  pub segments : v.segments ≡ w.segments
  pub phases : (p : Participant) (h : ServiceHash) → settled (phase_of v p h) ≡ settled (phase_of w p h)
  pub tags : v.tags ≡ w.tags
  pub tickets : v.tickets ≡ w.tickets
  pub counter : v.counter ≡ w.counter
