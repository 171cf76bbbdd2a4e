-- Laws that the proofs of several functions cite.
pub mod Laws
pub mod FromFn
pub mod KitWordLaws
pub mod AnswerLaws
pub mod KitAnswerLaws
pub mod WordLaws
pub mod Named
pub mod Demand3
pub mod KitDemand3
pub mod Examples
