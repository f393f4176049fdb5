pub mod Replies
pub mod Entries
pub mod Questions
pub mod Answered
pub mod Lines
pub mod OneLine
pub mod Asking
