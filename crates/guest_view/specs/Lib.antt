pub mod Guest
pub mod View
pub mod Promises
