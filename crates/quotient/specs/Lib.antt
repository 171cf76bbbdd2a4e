-- The quotient and its answer; its form, that it is never a tie, and its error for every fraction between the ends.
pub mod Quotient
pub mod Answer
pub mod QuotientLaws
pub mod Tells
pub mod Examples
