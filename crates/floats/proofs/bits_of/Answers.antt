-- A NaN has one pattern here.
use Rattle.std.proofs.Common.{◌≡◌, refl, sym, ap, ◌∙◌}
use Rattle.std.specs.Float.{nan, binary32}
use Rattle.std.specs.Float.Ieee.{to_bits}
use Rattle.floats.proofs.Numbers.{named_nan}
use Rattle.floats.proofs.bits_of.Goals as goal

pattern : 2143289344 ≡ to_bits binary32 nan
unfolding to_bits
pattern = refl

pub returns-then-is_nan : goal.returns-then-is_nan
returns-then-is_nan c = pattern ∙ ap (to_bits binary32) (sym (named_nan c.args.x (sym c.is_nan.ensures.value ∙ c.if-is_nan.true)))
