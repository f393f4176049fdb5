-- Snapshots: entries that come to a world.
use Rattle.std.specs.Prelude.{◌≡◌, ℕ, List, ◌∷◌, [], ◌++◌}
use Rattle.iceoryx2_access.specs.Run.{Run}
use Rattle.iceoryx2_world.specs.World.{World, empty_world}
use Rattle.iceoryx2_table.specs.Same.{IsSameButRead}
use Rattle.iceoryx2_log.specs.declared.entry.Entry.{Entry}
use Rattle.iceoryx2_journal.specs.declared.taking.Next.{Next}
use Rattle.iceoryx2_journal.specs.declared.taking.Next.TheVariants as next
use Rattle.iceoryx2_journal.specs.Follow.{IsFollowed}

-- From nothing, with this number next, the entries come to the world, each followed in its place.
abbrev pub IsSnapshot : (counter : ℕ) → List Entry → World → Type 0
IsSnapshot counter entries w = Run IsFollowed (empty_world counter) entries w

-- They come to it, but for who has only read.
pub record StandsFor (counter : ℕ) (entries : List Entry) (w : World) : Type 0 where
  pub exact : World
  pub is_snapshot : IsSnapshot counter entries exact
  pub same : IsSameButRead exact w

-- What following one more entry comes to, by how it ends, with the entries that were followed so far.
abbrev pub WritesNext : Next → World → List Entry → World → List Entry → Type 0
WritesNext next.Taken w old v new = (e : Entry) × IsFollowed w e v × (new ≡ old ++ e ∷ [])
WritesNext next.Nothing w old v new = (v ≡ w) × (new ≡ old)
WritesNext (next.Stopped s) w old v new = Unit {0}
