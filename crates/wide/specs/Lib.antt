-- What a number of two words is worth, and the laws of its arithmetic, each over a base or a width.
pub mod Value
pub mod Division
pub mod OrderLaws
pub mod DifferenceLaws
pub mod ProductLaws
pub mod ShiftLaws
pub mod DigitLaws
pub mod DivisionLaws
