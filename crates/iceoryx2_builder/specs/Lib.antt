pub mod Builder
pub mod Setters
pub mod Weaker
pub mod Looks
pub mod Commands
