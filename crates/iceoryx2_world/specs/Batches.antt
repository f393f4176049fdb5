-- A batch: steps of peers, one after the other, of which any may find no memory.
use Rattle.std.specs.Prelude.{◌≡◌, ℕ, Bool, true, false, List, Option, Some, None, Result, Ok, Err}
use Rattle.std.specs.declared.alloc.AllocError.{AllocError}
use Rattle.iceoryx2_world.specs.declared.world.Participant.TheVariants.{Peer}
use Rattle.iceoryx2_world.specs.declared.world.Phase.{Phase}
use Rattle.iceoryx2_world.specs.declared.world.Phase.TheVariants as at
use Rattle.iceoryx2_world.specs.World.{World, phase_of}
use Rattle.iceoryx2_world.specs.Acts.{IsAct}
use Rattle.iceoryx2_world.specs.Acts as act
use Rattle.iceoryx2_world.specs.Steps.{world_after}
use Rattle.iceoryx2_access.specs.Counts.{count_up}
use Rattle.iceoryx2_access.specs.Run.{Run}
use Rattle.iceoryx2_world.specs.declared.batches.Act.{Act}
use Rattle.iceoryx2_world.specs.declared.batches.Act.TheVariants as stored
use Rattle.iceoryx2_world.specs.declared.batches.Step.{Step}

-- what it says, as an act at a world
abbrev pub act_of : Act → act.Act
act_of stored.Read = act.Read
act_of stored.Lock = act.Lock
act_of stored.RemoveSegment = act.RemoveSegment
act_of stored.RemoveDescription = act.RemoveDescription
act_of (stored.Make m) = act.Make m
act_of (stored.Publish d) = act.Publish d
act_of stored.Join = act.Join
act_of stored.Leave = act.Leave

-- the world after the peer's step; none where it is forbidden
abbrev pub effect : World → Step → Option World
effect w x = world_after w (Peer x.peer) x.hash (act_of x.act)

-- something is kept that wasn't
abbrev pub needs_room : act.Act → Phase → Bool
needs_room act.Read at.Idle = true
needs_room act.Lock f = true
needs_room (act.Make m) f = true
needs_room (act.Publish d) f = true
needs_room act.Join (at.Read n) = true
needs_room _ _ = false

-- whether the step may find no memory
abbrev pub may_starve : World → Step → Bool
may_starve w x = needs_room (act_of x.act) (phase_of w (Peer x.peer) x.hash)

-- The acts that need no room, at a phase of their peer: each that takes something away, reads once more or joins
-- once more.
pub data NeedsNoRoom : act.Act → Phase → Type 0 where
  removes_segment : {f : Phase} → NeedsNoRoom act.RemoveSegment f
  removes_description : {f : Phase} → NeedsNoRoom act.RemoveDescription f
  leaves : {f : Phase} → NeedsNoRoom act.Leave f
  reads_again : {n : ℕ} → NeedsNoRoom act.Read (at.Read n)
  joins_again : {n k : ℕ} → NeedsNoRoom act.Join (at.Joined n k)

-- the count after a step that answered this: one that found no memory is counted
abbrev pub skipped_after : Result Bool AllocError → ℕ → ℕ
skipped_after (Ok done) k = k
skipped_after (Err e) k = count_up k

-- A step of a batch, with the world and the count of skipped steps before and after.
pub data IsPeerStep (s : World × ℕ) (x : Step) (t : World × ℕ) : Type 0 where
  -- it is forbidden: nothing changes
  forbidden : effect s.0 x ≡ None → t ≡ s → IsPeerStep s x t
  -- it is allowed and has its effect
  acts : IsAct (act_of x.act) → effect s.0 x ≡ Some t.0 → t.1 ≡ s.1 → IsPeerStep s x t
  -- it is allowed and finds no memory: nothing changes, and it is counted
  starves : (v : World) → effect s.0 x ≡ Some v → may_starve s.0 x ≡ true → t ≡ (s.0, count_up s.1)
      → IsPeerStep s x t

-- The steps of a batch in order.
abbrev pub IsBatch : World × ℕ → List Step → World × ℕ → Type 0
IsBatch = Run IsPeerStep
