-- Whether nodes are alive.
use Rattle.std.specs.Prelude.{ℕ, ◌<◌, ◌≤◌, List, length, slice_index_or, Result, Ok, Err}
use Rattle.std.specs.IoError.{error_kind}
use Rattle.std.specs.declared.fs.locks.TryLockError.{TryLockError}
use Rattle.std.specs.declared.fs.locks.TryLockError.TheVariants.{Error, WouldBlock}
use Rattle.iceoryx2_file_log.specs.declared.error.FileFault.{FileFault}
use Rattle.iceoryx2_file_log.specs.Errors.{kind_fault}
use Rattle.iceoryx2_monitoring.specs.declared.state.NodeState.{NodeState}
use Rattle.iceoryx2_monitoring.specs.declared.state.NodeState.TheVariants.{Alive, Dead}
use Rattle.iceoryx2_monitoring.specs.declared.state.NodeStatus.{NodeStatus}

-- what the answer to a try of its lock tells of a node that has a file
abbrev pub state_of : Result (Unit {0}) TryLockError → Result NodeState FileFault
state_of (Ok locked) = Ok Dead
state_of (Err WouldBlock) = Ok Alive
state_of (Err (Error error)) = Err (kind_fault (error_kind error))

-- each by a higher number than those before it
abbrev pub IsRising : List NodeStatus → Type 0
IsRising found = (i j : ℕ) (other : NodeStatus) → i < j → j < length found
    → (slice_index_or found i other).node < (slice_index_or found j other).node

-- A status of this node goes there: those before have lower numbers, and those from there on higher ones.
pub record IsPlaceOf (node : ℕ) (found : List NodeStatus) (at : ℕ) : Type 0 where
  pub within : at ≤ length found
  pub before : (k : ℕ) (other : NodeStatus) → k < at → (slice_index_or found k other).node < node
  pub after : (k : ℕ) (other : NodeStatus) → at ≤ k → k < length found → node < (slice_index_or found k other).node
