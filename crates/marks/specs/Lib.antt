-- What an answer and its mark say, and the laws of refusals and marks.
pub mod Answers
pub mod AnswerLaws
pub mod Says
pub mod SaysLaws
