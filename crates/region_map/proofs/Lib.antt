pub mod Answers
pub mod Demand3
pub mod DeviceWindows
mod EmitLaws
mod FillLaws
pub mod FlatLaws
pub mod LeafLaws
pub mod ListLaws
mod PieceLaws
mod PushLaws
pub mod RangeTests
mod RenderLaws
mod ResolveLaws
pub mod UniqueLaws
pub mod ViewLaws
mod ViewWords
pub mod Visibility
pub mod WalkLaws
mod SpanLaws
