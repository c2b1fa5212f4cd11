pub mod NumberLaws
pub mod Order
pub mod StoreLaws
pub mod GroupLaws
pub mod WordLaws
