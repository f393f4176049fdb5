-- Why a node isn't claimed, or not looked at: what it comes from, and the texts.
use Rattle.std.specs.Prelude.{ℕ, ◌≡◌, ◌⊎◌, Bool, true, false, List, [], ◌++◌}
use Rattle.std.specs.Prelude.{string_bytes, codes, decimal}
use Rattle.iceoryx2_file_log.specs.declared.error.FileFault.{FileFault}
use Rattle.iceoryx2_file_log.specs.declared.error.FileFault.TheVariants as file
use Rattle.iceoryx2_file_log.specs.Errors.{IsOfFile, fault_text as file_fault_text}
use Rattle.iceoryx2_file_log.specs.Path.{IsSplit}
use Rattle.iceoryx2_monitoring.specs.declared.error.MonitoringFault.{MonitoringFault}
use Rattle.iceoryx2_monitoring.specs.declared.error.MonitoringFault.TheVariants.{NodeIsAlive, NoFreeNode, File}
use Rattle.iceoryx2_monitoring.specs.declared.error.MonitoringError.{MonitoringError}
use Rattle.iceoryx2_monitoring.specs.Paths.{token_of}

-- why a node isn't claimed whose file isn't locked for this reason
abbrev pub refusal_of : ℕ → FileFault → MonitoringFault
refusal_of node file.Busy = NodeIsAlive node
refusal_of node fault = File fault

-- What has the path of a node's file is no file.
abbrev pub of_no_file : MonitoringFault → Bool
of_no_file (File file.IsALink) = true
of_no_file (File file.IsAFolder) = true
of_no_file (File file.NotAFile) = true
of_no_file fault = false

-- ---- which errors come

-- It is about this path, or there was no memory for that.
abbrev pub IsErrorAt : List ℕ → MonitoringError → Type 0
IsErrorAt path error = (string_bytes error.path ≡ path)
    ⊎ ((string_bytes error.path ≡ []) × (error.fault ≡ File file.OutOfMemory))

-- what a look can be refused by
abbrev pub IsLookFault : MonitoringFault → Type 0
IsLookFault (NodeIsAlive node) = ⊥
IsLookFault NoFreeNode = ⊥
IsLookFault (File fault) = IsOfFile fault

-- what a claim of this node can be refused by
abbrev pub IsClaimFault : ℕ → MonitoringFault → Type 0
IsClaimFault node (NodeIsAlive other) = other ≡ node
IsClaimFault node NoFreeNode = ⊥
IsClaimFault node (File fault) = IsOfFile fault

abbrev pub IsLookError : List ℕ → MonitoringError → Type 0
IsLookError path error = IsErrorAt path error × IsLookFault error.fault

abbrev pub IsClaimError : ℕ → List ℕ → MonitoringError → Type 0
IsClaimError node path error = IsErrorAt path error × IsClaimFault node error.fault

-- Of a list: it is about the log's folder, or the file of a node.
abbrev pub IsListError : List ℕ → MonitoringError → Type 0
IsListError log error =
    ((folder : List ℕ) × (name : List ℕ) × IsSplit log folder name × IsLookError folder error)
    ⊎ ((node : ℕ) × IsLookError (token_of log node) error)

-- Of a claim of a free node: none is free, or it is about the file of one that isn't alive.
abbrev pub IsFreeClaimError : List ℕ → MonitoringError → Type 0
IsFreeClaimError log error = ((string_bytes error.path ≡ log) × (error.fault ≡ NoFreeNode))
    ⊎ ((node : ℕ) × IsLookError (token_of log node) error)

-- ---- texts

abbrev pub fault_text : MonitoringFault → List ℕ
fault_text (NodeIsAlive node) = codes "node " ++ decimal node ++ codes " is alive"
fault_text NoFreeNode = codes "no node up to 65535 is free"
fault_text (File fault) = file_fault_text fault

-- the path, and why it refused
abbrev pub monitoring_error_text : List ℕ → MonitoringFault → List ℕ
monitoring_error_text path fault = path ++ codes ": " ++ fault_text fault
