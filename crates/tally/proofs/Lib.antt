-- Laws that the proofs of several functions cite.
pub mod Laws
pub mod TallyLaws
pub mod Examples
