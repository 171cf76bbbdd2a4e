-- A reading times a factor, and divided by it, with laws and examples.
pub mod Reading
pub mod Divided
pub mod OneOperation
