pub mod Answers
mod RouteAllLaws
mod RouteLaws
pub mod RouteRefused
mod ViewWords
