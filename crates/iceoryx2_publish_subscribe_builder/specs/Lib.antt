pub mod Builder
pub mod PublishSubscribe
pub mod PublishSubscribeCalls
