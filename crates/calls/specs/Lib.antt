-- The theory of sweep calls, over any engine: of factors and ranges, or of kits. Definitions: State, Engine, Call, Plain, ByRow, Whole and Kit. Laws: the others, of which LoopLaws has what a loop over a call's steps wants. What whole sweeps owe stands in Whole, its proof in Demand3, and Made takes it to calls that were made. Examples: Toy and KitToy.
pub mod State
pub mod Engine
pub mod Call
pub mod Plain
pub mod ByRow
pub mod Whole
pub mod Kit
