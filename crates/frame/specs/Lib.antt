-- Frames and report: definitions, examples and laws.
pub mod Digits
pub mod Lines
pub mod Frame
pub mod Report
pub mod Written
pub mod Examples
pub mod DigitLaws
pub mod FieldLaws
pub mod FrameLaws
pub mod ReportLaws
pub mod WrittenLaws
