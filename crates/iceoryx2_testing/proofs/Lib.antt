pub mod ScriptRuns
pub mod TraceRuns
