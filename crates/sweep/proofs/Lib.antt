-- The laws, in the order in which they build on each other.
pub mod EngineLaws
pub mod SignLaws
pub mod StepLaws
pub mod LoopLaws
pub mod Demand3
pub mod Examples
