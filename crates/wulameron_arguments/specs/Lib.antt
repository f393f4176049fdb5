pub mod Home
pub mod Making
pub mod Places
pub mod Screens
