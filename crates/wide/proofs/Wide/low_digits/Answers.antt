-- The laws of the lowest digits at the width 64.
use Rattle.std.proofs.Common.{le_of_lt, zero-add, arith}
use Rattle.wide.specs.ShiftLaws.{lowest_within, lowest_past}
use Rattle.wide.proofs.Wide.low_digits.Goals as goal

pub returns-then-k-lt64 : goal.returns-then-k-lt64
returns-then-k-lt64 c = rw (c.power.ensures, zero-add) (lowest_within 64 c.args.k c.args.self.hi c.args.self.lo (le_of_lt c.if-k-lt64.true))

pub returns-else-k-lt64 : goal.returns-else-k-lt64
returns-else-k-lt64 c = rw c.power-else-k-lt64.ensures (lowest_past 64 c.args.k c.args.self.hi c.args.self.lo c.if-k-lt64.false (omega arith))
