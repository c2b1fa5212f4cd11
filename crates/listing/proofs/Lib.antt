pub mod InputLaws
pub mod ListingLaws
pub mod TextLaws
