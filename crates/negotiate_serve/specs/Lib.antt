pub mod Endings
pub mod Inputs
pub mod Outputs
pub mod Replies
pub mod Served
pub mod Transcripts
pub mod Reports
