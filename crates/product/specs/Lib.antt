-- The two-step and the one-step product, their marks, directions and answers, with their laws.
pub mod Product
pub mod OneStep
pub mod Marks
pub mod Devices
pub mod Answer
pub mod Units
