pub mod Span
pub mod Names
pub mod Messages
pub mod Defaults
pub mod Description
pub mod Errors
