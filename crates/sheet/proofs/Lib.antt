pub mod Answers
pub mod Example001
mod NumberLaws
pub mod ReadLaws
mod RefusalLaws
mod RegionLaws
mod SheetLaws
