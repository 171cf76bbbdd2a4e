-- Every NaN pattern is the one NaN.
use Rattle.std.proofs.Common.{◌≡◌, refl, sym, ◌∙◌}
use Rattle.std.specs.Float.{nan, binary32}
use Rattle.std.specs.Float.Ieee.{of_bits}
use Rattle.floats.proofs.Numbers.{nan_pattern, number_pattern}
use Rattle.floats.proofs.float_from.Goals as goal

the_pattern : of_bits binary32 2143289344 ≡ nan
unfolding of_bits
the_pattern = refl

pub returns-then-bits-gt-INFINITY : goal.returns-then-bits-gt-INFINITY
returns-then-bits-gt-INFINITY c = the_pattern ∙ sym (nan_pattern binary32 c.args.bits c.if-bits-gt-INFINITY.true)

pub float_from_bits-result : goal.float_from_bits-result
float_from_bits-result c = number_pattern binary32 c.args.bits c.if-bits-gt-INFINITY.false
