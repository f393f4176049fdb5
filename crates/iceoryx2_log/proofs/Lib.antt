pub mod Parts
pub mod Operations
pub mod Entries
pub mod Found
pub mod EachByte
pub mod Unread
