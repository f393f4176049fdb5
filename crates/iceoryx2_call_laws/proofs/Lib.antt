pub mod calls
pub mod quiet
