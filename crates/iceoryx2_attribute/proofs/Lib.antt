pub mod Ascending
pub mod Pairs
pub mod Keys
pub mod Additions
pub mod Requirements
