-- What the functions hand back, and laws of neighbours and cuts.
pub mod Neighbour
pub mod NeighbourLaws
pub mod Cuts
pub mod CutLaws
