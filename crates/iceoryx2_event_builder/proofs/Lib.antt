pub mod OwnSettings
pub mod Builders
pub mod Granted
