pub mod Equality
pub mod Reasons
pub mod Texts
pub mod Numbers
pub mod States
