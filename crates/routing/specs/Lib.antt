pub mod Look
pub mod Route
pub mod RouteCauses
pub mod Promises
