pub mod Limits
pub mod Refusal
pub mod Map
pub mod View
pub mod Words
