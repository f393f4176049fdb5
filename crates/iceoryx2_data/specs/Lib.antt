-- What a contract sees of the byte form.
pub mod PartForm
pub mod PartReading
pub mod Errors
pub mod Form
pub mod Reading
