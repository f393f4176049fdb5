pub mod Setters
pub mod Weaker
pub mod Accepts
pub mod Adjusting
pub mod LawfulCalls
pub mod Looks
pub mod Retries
