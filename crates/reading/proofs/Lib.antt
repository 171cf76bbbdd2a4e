-- Laws that the proofs of several functions cite.
pub mod Laws
pub mod Exponents
pub mod FirstLaws
pub mod ReadingLaws
pub mod AnswerLaws
pub mod Standard
pub mod OneOperationLaws
pub mod SignLaws
pub mod MirrorLaws
pub mod Demand2
pub mod QuotientTells
pub mod FromProduct
pub mod Examples
