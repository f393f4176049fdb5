-- What a contract sees of a log.
pub mod Form
pub mod FormLaws
pub mod Reading
pub mod Log
pub mod CallLog
pub mod Memory
pub mod Errors
