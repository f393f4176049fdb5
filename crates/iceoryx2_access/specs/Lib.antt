pub mod Letter
pub mod Run
pub mod Registered
pub mod MayRefuse
pub mod Counts
