pub mod Utf8
pub mod Powers
pub mod Compatible
pub mod Equality
