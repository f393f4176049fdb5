pub mod Pointers
pub mod TableSessions
