-- The program as a function, with its examples and its laws.
pub mod Output
pub mod SignLaws
pub mod Keep
pub mod PieceLaws
pub mod SweepLaws
pub mod KeepLaws
pub mod Step
pub mod Good
pub mod StepLaws
pub mod Work
pub mod PartLaws
pub mod Moves
pub mod MoveLaws
pub mod WorkLaws
pub mod LoopLaws
pub mod Program
pub mod Examples
