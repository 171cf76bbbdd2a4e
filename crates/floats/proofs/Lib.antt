-- The laws, in the order in which they build on each other.
pub mod Powers
pub mod Signs
pub mod Numbers
pub mod Pattern
pub mod Narrow
pub mod Times
pub mod Ratio
pub mod NormalLaws
pub mod Classes
