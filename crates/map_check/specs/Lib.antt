pub mod Reply
pub mod Fault
pub mod Clash
pub mod Check
pub mod Sound
pub mod Promises
