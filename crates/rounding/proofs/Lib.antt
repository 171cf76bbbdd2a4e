-- The laws, in the order in which they build on each other.
pub mod ApartLaws
pub mod DirectionLaws
pub mod GridLaws
pub mod Digits
pub mod UnitLaws
pub mod RoundLaws
pub mod Best
pub mod Standard
pub mod FractionLaws
pub mod DirectedLaws
pub mod UlpLaws
pub mod OneRounding
pub mod Examples
pub mod Ieee
pub mod ByDigitsLaws
