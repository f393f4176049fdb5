-- What a contract sees of types of messages.
pub mod Types
pub mod Errors
pub mod Alignments
pub mod Texts
