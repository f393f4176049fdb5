pub mod Builder
pub mod RequestResponse
pub mod RequestResponseCalls
