-- Kits of factors. Definitions: Engine (what a kit asks of a factor), Answers (what the code's kits, states and answers say) and Steps (the parts of a call). Laws: the others, of which SweepLaws has the loop over a call's steps. What whole sweeps of kits owe: Demand3. Examples: three factors, worked out.
pub mod Engine
pub mod AlikeLaws
pub mod Answers
pub mod Steps
pub mod EngineLaws
pub mod LoopLaws
pub mod StateLaws
pub mod SweepLaws
pub mod Demand3
pub mod Examples
