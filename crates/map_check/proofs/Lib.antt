pub mod Accepted
pub mod Answers
pub mod Bools
mod ClashLaws
mod FaultLaws
pub mod First
pub mod Found
pub mod MapWords
pub mod Replies
