-- What a word says.
pub mod Words
pub mod WordLaws
