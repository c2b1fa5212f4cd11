pub mod Position
pub mod Drawing
