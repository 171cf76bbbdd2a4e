-- The definitions and laws of a factor, in the order in which they build on each other.
pub mod Precision
pub mod Context
pub mod Parts
pub mod Ends
pub mod UnitParts
pub mod SetUp
pub mod Stored
