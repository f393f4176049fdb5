-- What a contract sees of who a node is, and whether it is alive.
pub mod Paths
pub mod Errors
pub mod States
