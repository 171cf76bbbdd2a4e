-- The definitions and laws of rounding, in the order in which they build on each other.
pub mod Apart
pub mod Direction
pub mod Grid
pub mod Unit
pub mod Round
pub mod Signed
pub mod Fraction
pub mod Ulp
pub mod ByDigits
