pub mod Answer
pub mod Number
pub mod Region
pub mod Sheet
pub mod Promises
pub mod Example001
