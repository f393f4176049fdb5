pub mod Builder
pub mod Event
pub mod EventCalls
