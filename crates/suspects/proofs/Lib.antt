-- The laws, in the order in which they build on each other.
pub mod RightLaws
pub mod SuspectLaws
pub mod NextLaws
pub mod WindowLaws
pub mod Examples
