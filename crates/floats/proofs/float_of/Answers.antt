-- The pattern of a normal number.
use Rattle.std.proofs.Common.{sym, ap, ◌∙◌, Bool, true, false}
use Rattle.std.specs.Float.{binary32}
use Rattle.floats.specs.Fields.{float_of}
use Rattle.floats.proofs.Pattern.{pattern_number, pattern_is}
use Rattle.floats.proofs.float_of.Goals as goal

pub float_from_bits-result : goal.float_from_bits-result
float_from_bits-result c = pattern_number binary32 true c.args.exponent c.args.m c.requires

pub returns-then-minus : goal.returns-then-minus
returns-then-minus c =
    pattern_is binary32 true c.args.exponent c.args.m c.requires ∙ ap (λ (s : Bool). float_of binary32 s c.args.exponent c.args.m) (sym c.if-minus.true)

pub float_from_bits-result-else-minus : goal.float_from_bits-result-else-minus
float_from_bits-result-else-minus c = pattern_number binary32 false c.args.exponent c.args.m c.requires

pub returns-else-minus : goal.returns-else-minus
returns-else-minus c =
    pattern_is binary32 false c.args.exponent c.args.m c.requires ∙ ap (λ (s : Bool). float_of binary32 s c.args.exponent c.args.m) (sym c.if-minus.false)
