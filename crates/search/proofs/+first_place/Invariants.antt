-- The measure is the modulus and the step together: the mirror lowers the step, and a round the modulus.
use Rattle.std.proofs.Common.{◌+◌}
use Rattle.search.proofs.+first_place.Given as goal

abbrev pub decreases-first_place : goal.decreases-first_place
decreases-first_place l = l.m + l.step
