pub mod Refused
pub mod Record
pub mod SetUp
pub mod Host
pub mod Request
pub mod Leaves
pub mod Calls
pub mod LawsForPlugging
