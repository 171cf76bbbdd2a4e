-- What the exported functions answer and write, in words, what callers may rely on, and figures.
pub mod Failures
pub mod Words
pub mod Answers
pub mod Kits
