-- The tally of a range.
pub mod Tally
