pub mod Found
pub mod Walks
