pub mod FindLaws
pub mod GuestLaws
pub mod MemoryLaws
pub mod ReachLaws
pub mod ReadLaws
pub mod RuleLaws
pub mod StretchLaws
pub mod WordLaws
