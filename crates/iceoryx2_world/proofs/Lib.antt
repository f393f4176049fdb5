pub mod agreement
pub mod AccessCases
pub mod Runs
pub mod Waiting
pub mod Counting
