pub mod Builders
pub mod Granted
