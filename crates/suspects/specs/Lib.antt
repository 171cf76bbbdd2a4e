-- Suspects. Definitions: Suspects, and the search for the next of them (Next). Laws: the others, of which SuspectLaws has that every significand that is not right is one.
pub mod Suspects
pub mod Next
