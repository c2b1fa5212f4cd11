pub mod Result
pub mod Maps
pub mod Devices
pub mod Queues
pub mod Routes
pub mod Promises
