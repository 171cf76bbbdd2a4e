-- Plus zero turned is minus zero.
use Rattle.std.proofs.Common.{sym, ap}
use Rattle.std.specs.Float.Ieee
use Rattle.floats.specs.Fields.{zero_of}
use Rattle.floats.proofs.zero.Goals as goal

pub returns-then-minus : goal.returns-then-minus
unfolding Ieee.neg Ieee.of_bits
returns-then-minus c = ap zero_of (sym c.if-minus.true)
