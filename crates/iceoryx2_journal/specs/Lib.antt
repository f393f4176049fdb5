-- What a contract sees of a journal.
pub mod Follow
pub mod Taking
pub mod LogRecorder
pub mod Logged
pub mod Journal
pub mod Cleaning
pub mod Owed
pub mod Replay
pub mod Laws
pub mod Processes
pub mod Snapshot
