-- Sweeps of a factor. Definitions: Engine (what a sweep asks of a factor), Answers (what the code's states and answers say) and Steps. Laws: the others.
pub mod Engine
pub mod Answers
pub mod Steps
