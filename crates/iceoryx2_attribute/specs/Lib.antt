-- What a contract sees of attributes and of what is required of them.
pub mod Ascending
pub mod Attributes
pub mod Requirements
pub mod Additions
pub mod Errors
