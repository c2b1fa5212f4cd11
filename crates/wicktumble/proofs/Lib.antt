pub mod CallLaws
pub mod QueueCalls
pub mod QueueWords
pub mod RouteCalls
