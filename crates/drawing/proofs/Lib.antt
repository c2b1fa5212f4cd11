mod DrawLaws
pub mod PointLaws
