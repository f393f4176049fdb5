pub mod ServicesState
pub mod Comparing
pub mod Decided
pub mod Holdings
pub mod Merge
pub mod Recorded
pub mod Same
pub mod Spending
