pub mod Table
pub mod Bytes
pub mod Device
pub mod Request
pub mod Words
pub mod Promises
pub mod Asked
