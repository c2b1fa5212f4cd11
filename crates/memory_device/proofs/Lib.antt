pub mod Answers
pub mod Kept
pub mod LawsForPlugging
mod CallLaws
pub mod Plugged
mod LastManaged
pub mod Left
mod SetUpLaws
