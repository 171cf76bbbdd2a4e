-- The search by remainders. Definitions: Search, what it has to find (Finds), Cases, Winding and what the code carries back (Trace). Laws, which tie these together: the others.
pub mod Search
pub mod Finds
pub mod Cases
pub mod Winding
pub mod MultipleLaws
pub mod TurnLaws
pub mod CaseLaws
pub mod PlaceLaws
pub mod SearchLaws
pub mod Trace
pub mod TraceLaws
pub mod Examples
